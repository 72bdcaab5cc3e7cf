-- The names of services and response codes, by what the tables of `uds_message` answer.
use Rattle.std.proofs.Common.{◌≡◌, ℕ, List, ◌++◌, Option, option_map, unwrap_or, codes, ap}
use Rattle.can_log.specs.Digits.{hexadecimal}
use Rattle.uds_message.specs.Tables.{service_row, code_name}
use Rattle.trace_text.specs.Words.{service_text, code_text}

-- a service by what the table has of it
pub service_named : (sid : ℕ) (found : Option (List ℕ)) → found ≡ option_map (λ row. row.name) (service_row sid)
    → unwrap_or found (codes "service_" ++ hexadecimal 2 sid) ≡ service_text sid
unfolding service_text
service_named sid found is = ap (λ name. unwrap_or name (codes "service_" ++ hexadecimal 2 sid)) is

-- a response code by what the table has of it
pub code_named : (code : ℕ) (found : Option (List ℕ)) → found ≡ code_name code
    → unwrap_or found (codes "code_" ++ hexadecimal 2 code) ≡ code_text code
unfolding code_text
code_named code found is = ap (λ name. unwrap_or name (codes "code_" ++ hexadecimal 2 code)) is

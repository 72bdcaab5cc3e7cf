-- The words of the texts: bytes, times, and the names of directions, of roles, of services and of response codes.
use Rattle.std.specs.Prelude.{ℕ, ◌/◌, List, ◌++◌, codes, unwrap_or, option_map}
use Rattle.std.specs.Fmt.{decimal}
use Rattle.std.specs.List.{flat_map}
use Rattle.can_log.specs.Digits.{hexadecimal}
use Rattle.can_log.specs.Digits as digits
use Rattle.direction.specs.declared.Dir.{Dir}
use Rattle.direction.specs.declared.Dir.TheVariants as dir
use Rattle.uds_exchange.specs.declared.step.Step.{Step}
use Rattle.uds_exchange.specs.declared.step.Step.TheVariants as becomes
use Rattle.uds_message.specs.Tables.{service_row, code_name}

-- two hexadecimal digits for each byte, in upper case
abbrev pub bytes_text : List ℕ → List ℕ
bytes_text bytes = flat_map (hexadecimal 2) bytes

-- the time of a frame: its seconds without leading zeros, a dot, and six digits
abbrev pub stamp_text : ℕ → List ℕ
stamp_text micros = decimal (micros / 1000000) ++ codes "." ++ digits.decimal 6 micros

-- who sent a message
abbrev pub direction_text : Dir → List ℕ
direction_text dir.Tester = codes "tester"
direction_text dir.Unit = codes "unit"

-- the name of a service, or its identifier where the table has none
unfoldable pub service_text : ℕ → List ℕ
service_text sid = unwrap_or (option_map (λ row. row.name) (service_row sid)) (codes "service_" ++ hexadecimal 2 sid)

-- the name of a response code, or its number where the table has none
unfoldable pub code_text : ℕ → List ℕ
code_text code = unwrap_or (code_name code) (codes "code_" ++ hexadecimal 2 code)

-- what a message is to its item
abbrev pub role_text : Step → List ℕ
role_text (becomes.Request service) = codes "request"
role_text becomes.Answer = codes "answer"
role_text becomes.Removed = codes "pending"
role_text becomes.Hold = codes "stray"
role_text becomes.Pass = codes "stray"

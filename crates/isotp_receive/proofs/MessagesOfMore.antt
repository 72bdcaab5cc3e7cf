-- The messages of a trace that goes on.
use Rattle.std.proofs.Common.{◌≡◌, ℕ, List, [], ◌∷◌, ◌++◌, sym, ◌∙◌, ap, append_assoc}
use Rattle.std.proofs.lemmas.List.{append-nil}
use Rattle.isotp_receive.specs.Trace.{Entry}
use Rattle.isotp_receive.specs.Verdict.{messages_after, told_message, verdict}
use Rattle.isotp_receive.specs.MessageLaws.{MessagesGoOn}
use Rattle.isotp_receive.specs.Channels.{dir_of}

pub messages-append : (limit : ℕ) (past xs ys : List Entry) → messages_after limit past (xs ++ ys) ≡ messages_after limit past xs ++ messages_after limit (past ++ xs) ys
messages-append limit past [] ys = ap (λ l. messages_after limit l ys) (sym (append-nil past))
messages-append limit past (e ∷ xs) ys =
    ap (λ l. told_message (dir_of e.channel) (verdict limit past e).verdict ++ l) (messages-append limit (past ++ e ∷ []) xs ys
    ∙ ap (λ l. messages_after limit (past ++ e ∷ []) xs ++ messages_after limit l ys) (append_assoc past (e ∷ []) xs))
    ∙ sym (append_assoc (told_message (dir_of e.channel) (verdict limit past e).verdict) (messages_after limit (past ++ e ∷ []) xs) (messages_after limit (past ++ (e ∷ xs)) ys))

pub messages_go_on : MessagesGoOn
messages_go_on limit T more = messages-append limit [] T more

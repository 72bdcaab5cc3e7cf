-- The objects that explain a log, by the members that are said.
use Rattle.std.proofs.Common.{◌≡◌, ℕ, List, [], ◌∷◌, ◌++◌, refl, sym, ap, ◌∙◌, append_assoc, append-nil, codes}
use Rattle.std.specs.Fmt.{decimal}
use Rattle.direction.specs.declared.Dir.{Dir}
use Rattle.isotp_receive.specs.declared.event.Ended.{Ended}
use Rattle.isotp_receive.specs.declared.event.Reason.{Reason}
use Rattle.isotp_receive.specs.declared.event.Reason.TheVariants as reason
use Rattle.trace_text.specs.declared.remark.Remark.TheVariants as remark
use Rattle.trace_log.specs.declared.summary.Count.{Count}
use Rattle.trace_log.specs.declared.summary.Summary.{Summary}
use Rattle.trace_text.specs.RemarkLines.{cause_text, count_members, named_reason, reason_members, remark_members}
use Rattle.trace_text.specs.Json.{later_text, object_line}
use Rattle.trace_text.specs.Words.{direction_text}
use Rattle.trace_log.specs.Summing.{named_counts, seen_counts}
use Rattle.trace_text.specs.Counts.{counts_between}
use Rattle.trace_text.specs.proving.Spelling.{later_then, quotes_then}
use Rattle.trace_text.proofs.JsonTexts.{later_are, line_is}

-- the members of a reception that ended, from the front and from the back
ended_parts : (a n e dk d q bk b lk l ck c end : List ℕ)
    → (a ++ n) ++ e ++ (dk ++ d ++ q) ++ (bk ++ b) ++ (lk ++ l) ++ (ck ++ c ++ q) ++ end
    ≡ a ++ (n ++ (e ++ (dk ++ (d ++ (q ++ (bk ++ (b ++ (lk ++ (l ++ (ck ++ (c ++ (q ++ end))))))))))))
ended_parts a n e dk d q bk b lk l ck c end = simp append_assoc

pub ended_object : (line : ℕ) (ended : Ended)
    → (codes "{\"line\":" ++ decimal line) ++ codes ",\"event\":\"ended\"" ++ (codes ",\"direction\":\"" ++ direction_text ended.dir ++ codes "\"")
    ++ (codes ",\"begun_line\":" ++ decimal ended.begun_line) ++ (codes ",\"length\":" ++ decimal ended.len)
    ++ (codes ",\"cause\":\"" ++ cause_text ended.cause ++ codes "\"") ++ codes "}\n"
    ≡ object_line (remark_members (remark.Ended line ended))
ended_object line ended =
    ended_parts (codes "{\"line\":") (decimal line) (codes ",\"event\":\"ended\"") (codes ",\"direction\":\"") (direction_text ended.dir) (codes "\"")
    (codes ",\"begun_line\":") (decimal ended.begun_line) (codes ",\"length\":") (decimal ended.len)
    (codes ",\"cause\":\"") (cause_text ended.cause) (codes "}\n")
    ∙ sym (line_is (remark_members (remark.Ended line ended)))

-- those of a dropped frame
dropped_parts : (a n e dk d q r end : List ℕ) → (a ++ n) ++ e ++ (dk ++ d ++ q) ++ r ++ end ≡ a ++ (n ++ (e ++ (dk ++ (d ++ (q ++ (r ++ end))))))
dropped_parts a n e dk d q r end = simp append_assoc

pub dropped_object : (line : ℕ) (d : Dir) (why : Reason)
    → (codes "{\"line\":" ++ decimal line) ++ codes ",\"event\":\"dropped\"" ++ (codes ",\"direction\":\"" ++ direction_text d ++ codes "\"")
    ++ later_text (reason_members why) ++ codes "}\n"
    ≡ object_line (remark_members (remark.Dropped line d why))
dropped_object line d why =
    dropped_parts (codes "{\"line\":") (decimal line) (codes ",\"event\":\"dropped\"") (codes ",\"direction\":\"") (direction_text d) (codes "\"")
    (later_text (reason_members why)) (codes "}\n")
    ∙ ap (λ l. codes "{\"line\":" ++ (decimal line ++ (codes ",\"event\":\"dropped\",\"direction\":\"" ++ (direction_text d ++ (codes "\"" ++ l)))))
    (later_are (reason_members why) (codes "}\n"))
    ∙ sym (line_is (remark_members (remark.Dropped line d why)))

-- those of one that stands at the end
unfinished_parts : (e dk d q bk b lk l end : List ℕ) → e ++ (dk ++ d ++ q) ++ (bk ++ b) ++ (lk ++ l) ++ end
    ≡ e ++ (dk ++ (d ++ (q ++ (bk ++ (b ++ (lk ++ (l ++ end)))))))
unfinished_parts e dk d q bk b lk l end = simp append_assoc

pub unfinished_object : (d : Dir) (line len : ℕ)
    → codes "{\"event\":\"unfinished\"" ++ (codes ",\"direction\":\"" ++ direction_text d ++ codes "\"")
    ++ (codes ",\"begun_line\":" ++ decimal line) ++ (codes ",\"length\":" ++ decimal len) ++ codes "}\n"
    ≡ object_line (remark_members (remark.Unfinished d line len))
unfinished_object d line len =
    unfinished_parts (codes "{\"event\":\"unfinished\"") (codes ",\"direction\":\"") (direction_text d) (codes "\"")
    (codes ",\"begun_line\":") (decimal line) (codes ",\"length\":") (decimal len) (codes "}\n")
    ∙ sym (line_is (remark_members (remark.Unfinished d line len)))

-- a reason of words alone
pub named_is : (name : List ℕ) → codes ",\"reason\":\"" ++ name ++ codes "\"" ≡ later_text (named_reason name)
named_is name = ap (λ l. codes ",\"reason\":\"" ++ l) (sym (append-nil (name ++ codes "\"")))

-- one with two numbers, and one with one
two_numbers : (a bk b ck c : List ℕ) → a ++ (bk ++ b) ++ (ck ++ c) ≡ a ++ ((bk ++ b) ++ ((ck ++ c) ++ []))
two_numbers a bk b ck c = simp (append_assoc, append-nil)

pub sequence_reason : (expected found first second : ℕ) → first ≡ expected → second ≡ found
    → codes ",\"reason\":\"sequence number\"" ++ (codes ",\"expected\":" ++ decimal first) ++ (codes ",\"found\":" ++ decimal second)
    ≡ later_text (reason_members (reason.NextSequence expected found))
sequence_reason expected found first second first_is second_is =
    rw (first_is, second_is) (two_numbers (codes ",\"reason\":\"sequence number\"") (codes ",\"expected\":") (decimal expected)
    (codes ",\"found\":") (decimal found))

pub announced_reason : (announced : ℕ)
    → codes ",\"reason\":\"bytes announced\"" ++ (codes ",\"announced\":" ++ decimal announced)
    ≡ later_text (reason_members (reason.TooLong announced))
announced_reason announced = ap (λ l. codes ",\"reason\":\"bytes announced\"" ++ l) (sym (append-nil (codes ",\"announced\":" ++ decimal announced)))

one_member : (name number later behind : List ℕ) → ((codes ",\"" ++ (name ++ (codes "\":" ++ number))) ++ later) ++ behind
    ≡ codes "," ++ quotes_then name (codes ":" ++ (number ++ (later ++ behind)))
one_member name number later behind = simp append_assoc

-- counts are members
count_members_are : (counts : List Count) (behind : List ℕ)
    → counts_between (codes ",\"") (codes "\":") counts ++ behind ≡ later_then (count_members (seen_counts counts)) behind
count_members_are [] behind = refl
count_members_are (count ∷ later) behind =
    one_member count.0.now (decimal count.1) (counts_between (codes ",\"") (codes "\":") later) behind
    ∙ ap (λ l. codes "," ++ quotes_then count.0.now (codes ":" ++ (decimal count.1 ++ l))) (count_members_are later behind)

-- the object of the counts
pub counts_object : (summary : Summary) (counts : List Count) → seen_counts counts ≡ named_counts summary
    → codes "{\"event\":\"counts\"" ++ (counts_between (codes ",\"") (codes "\":") counts ++ codes "}\n")
    ≡ object_line (remark_members (remark.Counts summary))
counts_object summary counts are =
    ap (λ l. codes "{\"event\":\"counts\"" ++ l) (count_members_are counts (codes "}\n") ∙ ap (λ c. later_then (count_members c) (codes "}\n")) are)
    ∙ sym (line_is (remark_members (remark.Counts summary)))

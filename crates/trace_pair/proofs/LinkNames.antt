-- What links to a difference name, and the row with which that begins.
use Rattle.std.proofs.Common.{◌≡◌, ℕ, ◌+◌, ◌-◌, ◌<◌, ◌^◌, Bool, List, [], ◌++◌, codes, drop, Some, true, append_assoc, ap, subst, sym}
use Rattle.std.specs.Prelude.{◌==◌, if◌then◌else◌, nat_lt}
use Rattle.std.specs.Fmt.{decimal}
use Rattle.std.proofs.lemmas.Bool.{lt-leb}
use Rattle.std.proofs.lemmas.Fmt.{decimal_injective}
use Rattle.uds_difference.specs.declared.row.Row.{Row}
use Rattle.uds_difference.specs.declared.row.Row.TheVariants.{Same, Changed, OnlyLeft, OnlyRight}
use Rattle.trace_pair.specs.ChangeWords.{where_link}
use Rattle.pair_words.specs.DifferenceNames.{difference_name}
use Rattle.trace_pair.specs.Differences.{first_unlisted, list_end}
use Rattle.trace_pair.specs.ItemRows.{row_start, way_on}
use Rattle.trace_pair.specs.LinkLaws.{HasAttribute, HasLinkTo, LinksSpellIdentifiers}

-- the parts of a text, with an attribute among them
in-tag : (front name quote behind : List ℕ) → front ++ name ++ (quote ++ behind) ≡ front ++ (name ++ quote) ++ behind
in-tag front name quote behind = simp append_assoc

in-link : (front name quote behind words end : List ℕ) → front ++ name ++ (quote ++ behind) ++ words ++ end ≡ front ++ (name ++ quote) ++ (behind ++ words ++ end)
in-link front name quote behind words end = simp append_assoc

in-end : (before words front key name quote behind : List ℕ)
    → before ++ (words ++ (front ++ key) ++ name ++ (quote ++ behind)) ≡ before ++ (words ++ front) ++ (key ++ name ++ quote) ++ behind
in-end before words front key name quote behind = simp append_assoc

of-row : (number : ℕ) (kind : Row) → HasAttribute (codes "id") (difference_name number) (row_start kind (Some number))
of-row number Same = (codes "<tr class=\"same\" ", codes ">", in-tag (codes "<tr class=\"same\" id=\"") (difference_name number) (codes "\"") (codes ">"))
of-row number Changed = (codes "<tr class=\"d ch\" ", codes ">", in-tag (codes "<tr class=\"d ch\" id=\"") (difference_name number) (codes "\"") (codes ">"))
of-row number OnlyLeft = (codes "<tr class=\"d oa\" ", codes ">", in-tag (codes "<tr class=\"d oa\" id=\"") (difference_name number) (codes "\"") (codes ">"))
of-row number OnlyRight = (codes "<tr class=\"d ob\" ", codes ">", in-tag (codes "<tr class=\"d ob\" id=\"") (difference_name number) (codes "\"") (codes ">"))

of-line : (number : ℕ) (words : List ℕ) → HasLinkTo number (where_link true number words)
of-line number words = (codes "<a ", codes ">" ++ words ++ codes "</a>", in-link (codes "<a href=\"#") (difference_name number) (codes "\"") (codes ">") words (codes "</a>"))

of-next : (number : ℕ) → HasLinkTo number (way_on (Some number))
of-next number = (codes "<a ", codes ">next</a>", in-tag (codes "<a href=\"#") (difference_name number) (codes "\"") (codes ">next</a>"))

-- the link at the end of the list, by what stands before it
go-on : (before words : List ℕ)
    → HasLinkTo first_unlisted (before ++ (codes "<p>" ++ words ++ codes " below: <a href=\"#" ++ difference_name first_unlisted ++ codes "\">go on there</a>.</p>\n"))
go-on before words = (
  before ++ (codes "<p>" ++ words ++ codes " below: <a "),
  codes ">go on there</a>.</p>\n",
  in-end before (codes "<p>" ++ words) (codes " below: <a ") (codes "href=\"#") (difference_name first_unlisted) (codes "\"") (codes ">go on there</a>.</p>\n"),
)

of-end : (count : ℕ) → 50 < count → HasLinkTo first_unlisted (list_end count)
of-end count more =
    let before = if nat_lt 10 count then codes "</ol>\n</details>\n" else codes "</ol>\n" in
    let words = if count == 51 then codes "1 more difference stands" else decimal (count - 50) ++ codes " more differences stand" in
    let text = codes "<p>" ++ words ++ codes " below: <a href=\"#" ++ difference_name first_unlisted ++ codes "\">go on there</a>.</p>\n" in
    subst (λ (few : Bool). HasLinkTo first_unlisted (before ++ (if few then [] else text))) (sym (lt-leb count 50 more)) (go-on before words)

pub links_spell_identifiers : LinksSpellIdentifiers
links_spell_identifiers number =
    (of-row number, of-line number, of-next number, of-end, λ other small fits same. decimal_injective number other small fits (ap (drop 1) same))

-- The credit lines of a log, whatever identifiers it has, in words, as objects of JSON, or as the units of a profile.
-- An answer is credited to the identifier that last asked for its service; a *credit line* is an identifier that has a
-- credited answer, its tester, the number of its answers credited to that, how many requests that sent, and a
-- functional identifier beside both, where there is one.
use Rattle.uds_find.specs.Finding.{IdText}
use Rattle.std.specs.Prelude.{ℕ, List, [], ◌∷◌, ◌++◌, Option, Some, None, codes, take}
use Rattle.std.specs.Fmt.{decimal}
use Rattle.std.specs.List.{flat_map}
use Rattle.trace_text.specs.declared.credit_style.CreditStyle.{CreditStyle}
use Rattle.trace_text.specs.declared.credit_style.CreditStyle.TheVariants.{Lines, Profile}
use Rattle.trace_text.specs.declared.notation.Notation.{Notation}
use Rattle.trace_text.specs.declared.notation.Notation.TheVariants.{Text, Json}
use Rattle.trace_text.specs.Json.{Members, nothing, member, object_line}
use Rattle.trace_text.specs.Json as json
use Rattle.uds_find.specs.declared.pair.CreditLine.{CreditLine}

-- the option of a functional identifier, where there is one
abbrev pub functional_option : Option IdText → List ℕ
functional_option None = []
functional_option (Some text) = codes " --functional " ++ text.items

-- a credit line in words: its credits, and the options by which other commands take its identifiers
abbrev pub worded_credit : CreditLine → List ℕ
worded_credit line =
    decimal line.credits ++ codes " --tester " ++ line.tester.items ++ codes " --unit " ++ line.unit.items
    ++ functional_option line.functional ++ codes "\n"

-- the member of a functional identifier, where there is one
abbrev pub functional_member : Option IdText → Members
functional_member None = nothing
functional_member (Some text) = member (codes "functional") (json.string text.items) nothing

-- the same as it stands behind another member
abbrev pub functional_mark : Option IdText → List ℕ
functional_mark None = []
functional_mark (Some text) = codes ",\"functional\":\"" ++ text.items ++ codes "\""

-- a credit line as an object of JSON
abbrev pub credit_object : CreditLine → Members
credit_object line =
    member (codes "credits") (json.number line.credits) (member (codes "requests") (json.number line.requests)
    (member (codes "tester") (json.string line.tester.items) (member (codes "unit") (json.string line.unit.items)
    (functional_member line.functional))))

-- a credit line as it is written in a notation
abbrev pub credit_line_text : Notation → CreditLine → List ℕ
credit_line_text Text line = worded_credit line
credit_line_text Json line = object_line (credit_object line)

-- how many of its tester's requests a unit answered, as a comment
unfoldable pub answered_comment : CreditLine → List ℕ
answered_comment line = codes "# " ++ decimal line.credits ++ codes " of " ++ decimal line.requests ++ codes " requests answered\n"

-- a unit's name, by both identifiers
abbrev pub unit_name : CreditLine → List ℕ
unit_name line = line.tester.items ++ codes "-" ++ line.unit.items

-- the head of a unit's table, and its name
unfoldable pub unit_head : CreditLine → List ℕ
unit_head line = codes "[[unit]]\nname = \"" ++ unit_name line ++ codes "\"\n"

-- the functional identifier of a unit, where there is one
abbrev pub functional_key : Option IdText → List ℕ
functional_key None = []
functional_key (Some text) = codes "functional = \"" ++ text.items ++ codes "\"\n"

-- the identifiers of a unit, and the functional one, where there is one
unfoldable pub unit_identifiers : CreditLine → List ℕ
unit_identifiers line =
    codes "tester = \"" ++ line.tester.items ++ codes "\"\nunit = \"" ++ line.unit.items ++ codes "\"\n"
    ++ functional_key line.functional

-- a credit line as a unit of a profile
unfoldable pub unit_text : CreditLine → List ℕ
unit_text line = answered_comment line ++ unit_head line ++ unit_identifiers line

-- the same behind another unit
unfoldable pub later_unit_text : CreditLine → List ℕ
later_unit_text line = codes "\n" ++ unit_text line

-- how many units a profile may have behind its first: 64 in all
abbrev pub most_later_units : ℕ
most_later_units = 63

-- the profile of the first credit lines, of which it has as many as it may have units
abbrev pub profile_text : List CreditLine → List ℕ
profile_text [] = codes "# nobody answered\n"
profile_text (line ∷ more) = unit_text line ++ flat_map later_unit_text (take most_later_units more)

-- the text of credit lines, in order: each as a line, or the first of them as a profile
abbrev pub credit_lines_text : CreditStyle → List CreditLine → List ℕ
credit_lines_text (Lines notation) lines = flat_map (credit_line_text notation) lines
credit_lines_text Profile lines = profile_text lines

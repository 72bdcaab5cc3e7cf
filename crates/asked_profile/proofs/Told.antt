-- What is told of a text that is no profile.
use Rattle.std.proofs.Common.{◌≡◌, ◌∙◌, ◌<◌, ◌≤◌, ℕ, List, [], ◌∷◌, ◌++◌, ap, sym, subst, refl, map, Option, Some, None, option_map, Result, Ok, Err, codes, length}
use Rattle.std.specs.Prelude.{unwrap_or, String}
use Rattle.std.specs.Borrow.{Bor}
use Rattle.std.specs.BTreeMap.{BTreeMap}
use Rattle.std.specs.Fmt.{decimal}
use Rattle.std.specs.List.{flat_map}
use Rattle.std.specs.declared.alloc.Global.{Global}
use Rattle.toml.specs.View.{table_view}
use Rattle.toml.specs.declared.value.Value.{Value}
use Rattle.profile.specs.Document.{IsDocument}
use Rattle.profile.specs.declared.document.DocumentFault.TheVariants as unread
use Rattle.profile.specs.declared.document.DocumentFault.TheVariants.{TooLong, NotToml}
use Rattle.profile.specs.Answers.{Reads}
use Rattle.profile.specs.declared.profile.ProfileFault.TheVariants as unmade
use Rattle.toml.specs.Data.{Members}
use Rattle.asked_profile.specs.WrongText.{wrong_text}
use Rattle.profile.specs.Profile.{ProfileValue, profile_of}
use Rattle.profile.specs.Wrong.{WrongValue}
use Rattle.profile.specs.declared.profile.Profile.{Profile}
use Rattle.asked_profile.specs.Asked.{IsAsked, IsAskedOf, IsToldOf, IsWrong, TakesMemoryOf, WantsMemory, for_document, for_profile, for_told, is_long, is_not_toml, is_no_profile}
use Rattle.asked_profile.specs.declared.asked.AskedFault.{AskedFault}
use Rattle.asked_profile.specs.declared.asked.AskedFault.TheVariants as fault

-- what a text with a default holds
pub text_or : (text : Option (Bor (List ℕ))) (default : Bor (List ℕ)) → (unwrap_or text default).now ≡ unwrap_or (option_map (λ t. t.now) text) default.now
text_or None default = refl
text_or (Some text) default = refl

-- what is told of elements is told of what they are
pub told_each : {X Y : Type 0} (value : X → Y) (text : Y → List ℕ) (xs : List X) → flat_map (λ x. text (value x)) xs ≡ flat_map text (map value xs)
told_each value text [] = refl
told_each value text (x ∷ xs) = ap (λ rest. text (value x) ++ rest) (told_each value text xs)

-- a line and a text that are told are those of what is wrong
wrong_as : (text : List ℕ) (line other : ℕ) (said told : List ℕ) → other ≡ line → told ≡ said → IsWrong text line said → IsWrong text other told
wrong_as text line other said told same_line same_text wrong =
    subst (λ n. IsWrong text n told) (sym same_line) (subst (λ t. IsWrong text line t) (sym same_text) wrong)

-- what a document takes memory for is that of its text
document_wants : (text : List ℕ) (table : BTreeMap (String Global) Value) (asked : Result ProfileValue WrongValue) → IsDocument text (Ok table)
    → profile_of (table_view table) ≡ asked → TakesMemoryOf (table_view table) asked → WantsMemory text
document_wants text table (Ok profile) read is takes = for_profile profile (read.0, read.1) (ap (option_map profile_of) read.2 ∙ ap Some is) takes
document_wants text table (Err wrong) read is takes = for_told 0 _ (is_no_profile (table_view table) wrong (read.0, read.1) read.2 is) takes

pub of_document : (text : List ℕ) (table : BTreeMap (String Global) Value) (result : Result Profile AskedFault) → IsDocument text (Ok table)
    → IsAskedOf (table_view table) result → IsAsked text result
of_document text table (Ok profile) read asked = ((read.0, read.1), ap (option_map profile_of) read.2 ∙ ap Some asked)
of_document text table (Err fault.Memory) read asked = document_wants text table (profile_of (table_view table)) read refl asked
of_document text table (Err (fault.Wrong told)) read (wrong, is, line, said) =
    wrong_as text 0 told.line _ told.text.items line said (is_no_profile (table_view table) wrong (read.0, read.1) read.2 is)

pub of_memory : (text : List ℕ) → IsDocument text (Err unread.Memory) → IsAsked text (Err fault.Memory)
of_memory text read = for_document read.0 read.1

-- memory is refused to a profile, or to what is told of a wrong one
pub lacks_memory : (document : Members) → Reads (profile_of document) (Err unmade.Memory) → IsAskedOf document (Err fault.Memory)
lacks_memory document (profile, is, takes) = subst (TakesMemoryOf document) (sym is) takes

pub of_wrong : (document : Members) (wrong : WrongValue) (told : AskedFault) → profile_of document ≡ Err wrong → IsToldOf 0 (wrong_text document wrong) told
    → IsAskedOf document (Err told)
of_wrong document wrong fault.Memory is said = subst (TakesMemoryOf document) (sym is) said
of_wrong document wrong (fault.Wrong told) is said = (wrong, is, said.0, said.1)

pub of_length : (text : List ℕ) (told : AskedFault) → IsDocument text (Err TooLong) → IsToldOf 0 (codes "longer than 65536 bytes") told → IsAsked text (Err told)
of_length text fault.Memory read is = for_told 0 _ (is_long read) is
of_length text (fault.Wrong told) read is = wrong_as text 0 told.line _ told.text.items is.0 is.1 (is_long read)

pub of_place : (text : List ℕ) (line column : ℕ) (told : AskedFault) → IsDocument text (Err (NotToml line column))
    → IsToldOf line (codes "line " ++ decimal line ++ codes " column " ++ decimal column ++ codes ": not TOML") told → IsAsked text (Err told)
of_place text line column fault.Memory read is = for_told line _ (is_not_toml line column read.0 read.1 read.2) is
of_place text line column (fault.Wrong told) read is = wrong_as text line told.line _ told.text.items is.0 is.1 (is_not_toml line column read.0 read.1 read.2)

-- Which frames ask, whatever the service, and for which frames memory is needed.
use Rattle.std.specs.Prelude.{◌≡◌, ℕ, ◌<◌, Bool, true, false, ◌&&◌, ◌||◌, ◌⊎◌, List, Option, Some, None}
use Rattle.std.specs.List.{count_by}
use Rattle.can_log.specs.Frame.{FrameValue}
use Rattle.can_log.specs.declared.frame.Id.{Id}
use Rattle.uds_find.specs.Credit.{is_same, IsFirstAnswer, IsFirstCredit}
use Rattle.uds_find.specs.Functional.{is_functional, is_functional_frame}
use Rattle.uds_find.specs.Mention.{mention_of}
use Rattle.uds_find.specs.declared.mention.Mention.{Mention}
use Rattle.uds_find.specs.declared.mention.Mention.TheVariants.{Asks, Answers}

-- whether what is said asks for some service
abbrev pub is_asking : Option Mention → Bool
is_asking None = false
is_asking (Some (Asks service)) = true
is_asking (Some (Answers service)) = false

-- whether a frame asks
abbrev pub asks : FrameValue → Bool
asks frame = is_asking (mention_of frame)

-- how many of these frames ask, and are this identifier's
unfoldable pub request_count : List FrameValue → Id → ℕ
request_count frames asker = count_by (λ frame. asks frame && is_same frame.id asker) frames

-- some of these frames asks
abbrev pub HasAsking : List FrameValue → Type 0
HasAsking frames = 0 < count_by asks frames

-- after these frames this one is the first by which its identifier asks
abbrev pub IsFirstAsking : List FrameValue → FrameValue → Type 0
IsFirstAsking past frame = (asks frame ≡ true) × (request_count past frame.id ≡ 0)

-- after these frames this one is the first functional one of its identifier
abbrev pub IsFirstFunctional : List FrameValue → FrameValue → Type 0
IsFirstFunctional past frame = (is_functional_frame frame ≡ true) × (is_functional past frame.id ≡ false)

-- what a finder keeps grows by this frame, after these: it is the first asking of its identifier, the first functional
-- frame of it, the first credit of its pair, or the first credited answer of its service by its unit
abbrev pub NeedsMemory : List FrameValue → FrameValue → Type 0
NeedsMemory past frame =
    IsFirstAsking past frame ⊎ IsFirstFunctional past frame ⊎ IsFirstCredit past frame ⊎ IsFirstAnswer past frame

-- whether a finder keeps the identifier of a frame: of one that asks, and of a functional one
abbrev pub is_kept : FrameValue → Bool
is_kept frame = asks frame || is_functional_frame frame

-- a finder keeps the identifier of some of these frames
abbrev pub HasKept : List FrameValue → Type 0
HasKept frames = 0 < count_by is_kept frames

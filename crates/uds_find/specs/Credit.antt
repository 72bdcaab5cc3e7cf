-- Which identifier an answer is credited to: the one that last asked for the service, once for that asking.
use Rattle.std.specs.Prelude.{◌≡◌, ℕ, ◌==◌, ◌<◌, Bool, true, false, ◌&&◌, ◌||◌, List, [], ◌∷◌, ◌++◌, length, Option, Some, None, if◌then◌else◌}
use Rattle.std.specs.List.{after_last, cons_option, count_by, filter, last_or, list_any}
use Rattle.std.specs.Option.{is_some}
use Rattle.can_log.specs.Frame.{FrameValue}
use Rattle.can_log.specs.declared.frame.Id.{Id}
use Rattle.can_log.specs.declared.frame.Id.TheVariants as id
use Rattle.uds_find.specs.Mention.{mention_of}
use Rattle.uds_find.specs.declared.mention.Mention.{Mention}
use Rattle.uds_find.specs.declared.mention.Mention.TheVariants.{Asks, Answers}
use Rattle.uds_find.specs.declared.pair.IdPair.{IdPair}

-- the two are one identifier
abbrev pub is_same : Id → Id → Bool
is_same (id.Std one) (id.Std other) = one == other
is_same (id.Ext one) (id.Ext other) = one == other
is_same (id.Std one) (id.Ext other) = false
is_same (id.Ext one) (id.Std other) = false

-- whether what is said asks for this service
abbrev pub is_asking_of : ℕ → Option Mention → Bool
is_asking_of service None = false
is_asking_of service (Some (Asks asked)) = asked == service
is_asking_of service (Some (Answers answered)) = false

-- whether what is said answers this service
abbrev pub is_answer_of : ℕ → Option Mention → Bool
is_answer_of service None = false
is_answer_of service (Some (Asks asked)) = false
is_answer_of service (Some (Answers answered)) = answered == service

-- whether a frame asks for this service
abbrev pub asks_for : ℕ → FrameValue → Bool
asks_for service frame = is_asking_of service (mention_of frame)

-- whether a frame answers this service, and this unit sent it
abbrev pub answers_from : ℕ → Id → FrameValue → Bool
answers_from service unit frame = is_answer_of service (mention_of frame) && is_same frame.id unit

-- who sent a frame, if there is one
abbrev pub sender_of : Option FrameValue → Option Id
sender_of None = None
sender_of (Some frame) = Some frame.id

-- who of these frames is the last that asks for the service
unfoldable pub last_asker : ℕ → List FrameValue → Option Id
last_asker service past = sender_of (last_or None (filter (asks_for service) past))

-- whether the unit has answered the service since these frames last asked for it
unfoldable pub has_answered : ℕ → Id → List FrameValue → Bool
has_answered service unit past = list_any (answers_from service unit) (after_last (asks_for service) past)

-- an answer of the unit is credited to who asked last, but never to the unit itself, nor a second time
abbrev pub credited_to : Option Id → Id → Bool → Option IdPair
credited_to None unit answered = None
credited_to (Some tester) unit answered = if is_same tester unit || answered then None else Some (record { tester = tester; unit = unit })

-- the pair that a frame of this identifier is credited to, where it says this after these frames
abbrev pub credit_of_mention : List FrameValue → Option Mention → Id → Option IdPair
credit_of_mention past (Some (Answers service)) unit = credited_to (last_asker service past) unit (has_answered service unit past)
credit_of_mention past (Some (Asks service)) unit = None
credit_of_mention past None unit = None

-- the pair that a frame is credited to after these frames
abbrev pub credit : List FrameValue → FrameValue → Option IdPair
credit past frame = credit_of_mention past (mention_of frame) frame.id

-- the pairs that these frames are credited to, where the frames `past` came before them
unfoldable pub credits_after : List FrameValue → List FrameValue → List IdPair
credits_after past [] = []
credits_after past (frame ∷ rest) = cons_option (credit past frame) (credits_after (past ++ frame ∷ []) rest)

-- the pairs that frames are credited to, one for each answer that is
abbrev pub credits : List FrameValue → List IdPair
credits frames = credits_after [] frames

-- the two are one pair: of one tester and one unit
abbrev pub is_same_pair : IdPair → IdPair → Bool
is_same_pair one other = is_same one.tester other.tester && is_same one.unit other.unit

-- how many answers of its unit are credited to its tester
unfoldable pub credit_count : List FrameValue → IdPair → ℕ
credit_count frames pair = count_by (λ credited. is_same_pair credited pair) (credits frames)

-- some answer among these frames is credited
abbrev pub HasCredit : List FrameValue → Type 0
HasCredit frames = 0 < length (credits frames)

-- after these frames this one is the first that is credited to its pair
abbrev pub IsFirstCredit : List FrameValue → FrameValue → Type 0
IsFirstCredit past frame = (pair : IdPair) × (credit past frame ≡ Some pair) × (credit_count past pair ≡ 0)

-- whether a frame is a credited answer of the service by the unit, after these frames
abbrev pub is_credited_answer : ℕ → Id → List FrameValue → FrameValue → Bool
is_credited_answer service unit past frame = answers_from service unit frame && is_some (credit past frame)

-- whether one of these frames is, where the frames `past` came before them
unfoldable pub has_credited_after : ℕ → Id → List FrameValue → List FrameValue → Bool
has_credited_after service unit past [] = false
has_credited_after service unit past (frame ∷ rest) =
    is_credited_answer service unit past frame || has_credited_after service unit (past ++ frame ∷ []) rest

-- whether some answer of the service by the unit is credited
abbrev pub has_credited : ℕ → Id → List FrameValue → Bool
has_credited service unit frames = has_credited_after service unit [] frames

-- after these frames this one is the first credited answer of its service by its unit
abbrev pub IsFirstAnswer : List FrameValue → FrameValue → Type 0
IsFirstAnswer past frame = (service : ℕ) × (is_credited_answer service frame.id past frame ≡ true) × (has_credited service frame.id past ≡ false)

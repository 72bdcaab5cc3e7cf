-- The numbers of items: which item has a number, and which role a message has in an item, by what becomes of the
-- message.
use Rattle.std.specs.Prelude.{◌≡◌, ℕ, ◌+◌, true, List, slice_get, Option, Some}
use Rattle.direction.specs.Dir.{Message}
use Rattle.uds_exchange.specs.Meaning.{ItemValue, exchange, stray_of, is_pending_reply_to}
use Rattle.uds_exchange.specs.declared.step.Step.{Step}
use Rattle.uds_exchange.specs.declared.step.Step.TheVariants as step

-- the item of this number, counted from 1, stands among these, and this holds of it
abbrev pub HasItem : List ItemValue → ℕ → (ItemValue → Type 0) → Type 0
HasItem items number Holds =
    (place : ℕ) × (item : ItemValue) × (number ≡ place + 1) × (slice_get items place ≡ Some item) × Holds item

-- the item is an exchange that begins with this request
abbrev pub IsBegunBy : List ℕ → ItemValue → Type 0
IsBegunBy request item = (reply : Option (List ℕ)) × (item ≡ exchange request reply)

-- the item is an exchange that has this answer
abbrev pub IsAnsweredBy : List ℕ → ItemValue → Type 0
IsAnsweredBy reply item = (request : List ℕ) × (item ≡ exchange request (Some reply))

-- the item is an exchange for whose request this reply is pending
abbrev pub IsPendingBy : Message → ItemValue → Type 0
IsPendingBy sent item = (request : List ℕ) × IsBegunBy request item × (is_pending_reply_to request sent ≡ true)

-- a message that becomes this has this role in the item
abbrev pub HasRoleInItem : Step → Message → ItemValue → Type 0
HasRoleInItem (step.Request service) sent item = IsBegunBy sent.1 item
HasRoleInItem step.Answer sent item = IsAnsweredBy sent.1 item
HasRoleInItem step.Removed sent item = IsPendingBy sent item
HasRoleInItem step.Hold sent item = item ≡ stray_of sent
HasRoleInItem step.Pass sent item = item ≡ stray_of sent

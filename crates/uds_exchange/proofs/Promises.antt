-- What a proof of a crate above cites: the proofs of the public laws, each under the name of its statement in specs/,
-- some of them written out at the end, and before these how items go on with one more message, in the words of
-- specs/proving, and how many there are. Nothing else of proofs/ is for them.
use Rattle.std.proofs.Common.{[], refl}
use Rattle.uds_exchange.specs.Meaning.{meaning}
use Rattle.uds_exchange.specs.Laws.{NoneIsMadeUp, EachHasOneRole, MessagesByRoles, HeldByOpenRequest}
use Rattle.uds_exchange.proofs.NoneMadeUp.{all-over}
use Rattle.uds_exchange.proofs.OneRole.{role_behind, has-role, only-role}
use Rattle.uds_exchange.proofs.MessagesByRoles.{by-roles}
use Rattle.uds_exchange.proofs.HeldMustWait.{nothing-held}
pub use Rattle.uds_exchange.proofs.MeantAgain.{meaning_is_kept}
pub use Rattle.uds_exchange.proofs.NoneLost.{none_is_lost}
pub use Rattle.uds_exchange.proofs.MessagesByRoles.{each_list_has_roles}
pub use Rattle.uds_exchange.proofs.RolesOfSteps.{step_tells_the_role}
pub use Rattle.uds_exchange.proofs.OpenRequests.{open_request_is_last}
pub use Rattle.uds_exchange.proofs.OpenRequestOfMore.{open_request_goes_on, removed_go_on}
pub use Rattle.uds_exchange.proofs.PutIn.{one_more_is_put_in}
pub use Rattle.uds_exchange.proofs.EarlyOfMore.{early_then_held, early_stays, early_grows}
pub use Rattle.uds_exchange.proofs.HeldMustWait.{held_must_wait}
pub use Rattle.uds_exchange.proofs.NoneLost.{none_is_lost_in_order}
pub use Rattle.uds_exchange.proofs.DecidedOfMore.{decided_then_undecided, decided_grows, undecided_must_wait}
pub use Rattle.uds_exchange.proofs.InBlocks.{message_stays}
pub use Rattle.uds_exchange.proofs.PuttingMessages.{puts_join}
pub use Rattle.uds_exchange.proofs.OrdererSteps.{puts_go_on, puts_end}
pub use Rattle.uds_exchange.proofs.PuttingItems.{decided_puts_go_on, decided_puts_end}
-- the items of a list and one more message are those of the list, with that message (`items_with`)
pub use Rattle.uds_exchange.proofs.MeaningOfMore.{meaning_goes_on}
-- how many items there are then, by what becomes of the message
pub use Rattle.uds_exchange.proofs.ItemCounts.{items_grow}
-- which number the open exchange has then, if one is open, by what becomes of the message
pub use Rattle.uds_exchange.proofs.OpenNumbers.{open_number_goes_on}
-- what becomes of the message is told by the items: by the first byte of their open request
pub use Rattle.uds_exchange.proofs.HeldOfMore.{step_by_items}
-- where a request is open, its exchange stands behind the items that are decided, and has the number of that place
pub use Rattle.uds_exchange.proofs.ItemNumbers.{open_exchange_stands, open_number_is_its_place}
-- the number that is judged of one more message is the place of its item, and the message has its role in that; so it
-- is whatever follows
pub use Rattle.uds_exchange.proofs.ItemNumbers.{number_is_its_place, number_stays_its_place}
-- what each item becomes with one more message (`EachBecomes`); and what holds of it, whatever it becomes, holds of it
-- then
pub use Rattle.uds_exchange.proofs.ItemNumbers.{items_become, item_stays, begun_stays}
-- what stands at a place of a list stands there in a longer one
pub use Rattle.uds_exchange.proofs.ListPlaces.{at_front}
-- there are no more items than messages in them
pub use Rattle.uds_exchange.proofs.ItemCounts.{items_are_few}
-- nor more than messages in the list
pub use Rattle.uds_exchange.proofs.ItemCounts.{items_within_messages}
-- where a request is open, fewer messages are held than there are items: its exchange is an item, too
pub use Rattle.uds_exchange.proofs.ItemCounts.{held_are_fewer}

pub none_is_made_up : NoneIsMadeUp
none_is_made_up passes M each = all-over passes [] M refl each

pub each_has_one_role : EachHasOneRole
each_has_one_role past x = (role_behind past x, has-role past x, only-role past x)

pub messages_by_roles : MessagesByRoles
messages_by_roles = by-roles []

pub held_by_open_request : HeldByOpenRequest
held_by_open_request M none = nothing-held (meaning M) none

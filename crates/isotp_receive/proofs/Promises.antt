-- The proofs of the public laws, each under the name of its statement in specs/, for the crates above to cite; and at the
-- end one more frame, and small facts of lists, positions and directions. Nothing else of proofs/ is for them.
pub use Rattle.isotp_receive.proofs.StandingLaws.{stands-open as what_stands_is_open, open-stands as what_is_open_stands, standing-is-fixed as what_stands_is_fixed, one-open as one_is_open}
pub use Rattle.isotp_receive.proofs.StandingLaws.{kept-bytes as keeps_fewer_bytes}
pub use Rattle.isotp_receive.proofs.DeliversLaws.{message-delivers as a_message_is_delivered}
pub use Rattle.isotp_receive.proofs.DeliveredMessages.{messages_are_delivered}
pub use Rattle.isotp_receive.proofs.VerdictLaws.{table-is-verdict as the_verdict_is_tabled}
pub use Rattle.isotp_receive.proofs.FunctionalFrames.{functional_frames_stand_alone, functional-has-no-part as functional_has_no_part}
pub use Rattle.isotp_receive.proofs.Fits.{room-join as places_agree_on_bytes, fits-join as places_agree_on_fit}
pub use Rattle.isotp_receive.proofs.Delivered.{recording-delivers as recording_delivers, recording-delivers-behind as recording_delivers_behind}
pub use Rattle.isotp_receive.proofs.Delivered.{delivers-at-last as recording_delivers_at_last_position}
pub use Rattle.isotp_receive.proofs.FrameLaws.{by-frames as recording_delivers_by_frames, certificate as clean_trace_is_a_recording}
pub use Rattle.isotp_receive.proofs.MessagesOfMore.{messages_go_on}
pub use Rattle.isotp_receive.proofs.DeliveredBytes.{messages_are_few, messages_fit, messages_hold_bytes}
pub use Rattle.isotp_receive.proofs.EventCounts.{events_go_on, events_are_as_many, too_long_is_announced, kept_is_within, clean_is_counted}
pub use Rattle.isotp_receive.proofs.Readings.{first_frame_is_read, said_is_read}
pub use Rattle.isotp_receive.proofs.BothDirections.{apart_channels, answered_on, said_on, sender}
pub use Rattle.isotp_receive.proofs.FunctionalFrames.{nothing-functional as nothing_functional}
pub use Rattle.isotp_receive.proofs.References.{same-reference as one_reference, within-a-second as on_time_is_within_a_second}
pub use Rattle.isotp_receive.proofs.Growths.{stands-without as refused_leaves_the_other}
pub use Rattle.isotp_receive.proofs.CapacityLaws.{stay-within as capacities_stay_within, new-within as new_pair_keeps_within, one-more-within as one_more_keeps_within}
pub use Rattle.isotp_receive.proofs.OneMore.{one_more}
pub use Rattle.isotp_receive.proofs.ListPositions.{get-here, get-left, get-drop}
pub use Rattle.isotp_receive.proofs.Fronts.{take_over}
pub use Rattle.isotp_receive.proofs.PositionLists.{last-in}
pub use Rattle.isotp_receive.proofs.Directions.{same, same-self, apart-flipped, other-apart}

-- Whether tester and unit look swapped (`looks_exchanged` in the answers of the library), by the messages alone: bit 6 of
-- a service identifier tells those of responses from those of requests (ISO 14229-1, service identifier values).
use Rattle.std.specs.Prelude.{Bool, not, ◌&&◌, List}
use Rattle.std.specs.List.{list_any}
use Rattle.direction.specs.Dir.{Message}
use Rattle.uds_message.specs.Message.{is_response_sid, sid}
use Rattle.uds_exchange.specs.Meaning.{is_from_tester, is_tester_request}
use Rattle.uds_exchange.specs.declared.sides.Sides.{Sides}

-- whether a message is one of the tester with the service identifier of a response
abbrev pub is_tester_response : Message → Bool
is_tester_response message = is_from_tester message.0 && is_response_sid (sid message.1)

-- whether a message is one of the unit without the service identifier of a response
abbrev pub is_unit_non_response : Message → Bool
is_unit_non_response message = not (is_from_tester message.0) && not (is_response_sid (sid message.1))

-- Tester and unit look swapped: there is no request among the messages, and the tester sent a response, and the unit
-- what is none.
abbrev pub look_exchanged : List Message → Bool
look_exchanged M = not (list_any is_tester_request M) && (list_any is_tester_response M && list_any is_unit_non_response M)

-- what tells of these messages whether tester and unit look swapped
abbrev pub sides_of : List Message → Sides
sides_of M = record {
  tester_asked = list_any is_tester_request M;
  tester_responds = list_any is_tester_response M;
  unit_sends_other = list_any is_unit_non_response M;
}

-- Two sessions by their items.
use Rattle.std.specs.Prelude.{List, map}
use Rattle.uds_exchange.specs.Meaning.{ItemValue}
use Rattle.trace_report.specs.Items.{item_value, items_in}
use Rattle.trace_report.specs.Session.{SessionValue}
use Rattle.trace_pair.specs.declared.sessions.Sessions.{Sessions}

-- the items of a session, without their places
abbrev pub values_in : SessionValue → List ItemValue
values_in session = map item_value (items_in session.rows)

-- the items of the left session, without their places
abbrev pub left_items : Sessions → List ItemValue
left_items both = values_in both.left.now

-- the items of the right session, without their places
abbrev pub right_items : Sessions → List ItemValue
right_items both = values_in both.right.now

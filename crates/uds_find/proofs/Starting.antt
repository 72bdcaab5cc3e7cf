-- What a finder keeps before the first frame.
use Rattle.std.proofs.Common.{◌≡◌, ℕ, List, [], Option, None, sym}
use Rattle.std.proofs.Common.{ap, subst, arith}
use Rattle.std.proofs.lemmas.List.{get_or-replicate, length-replicate}
use Rattle.std.specs.BTreeMap.{BTreeMap, IsOrdered}
use Rattle.std.specs.List.{list_any}
use Rattle.std.specs.List.Sorted.{IsStrictlySortedBy}
use Rattle.std.specs.Map.{lookup}
use Rattle.std.specs.Option.{is_some}
use Rattle.can_log.specs.declared.frame.Id.{Id}
use Rattle.uds_find.specs.Asking.{request_count}
use Rattle.uds_find.specs.Credit.{credit_count, credits_after}
use Rattle.uds_find.specs.Credit.{has_credited_after, is_same, is_same_pair, last_asker}
use Rattle.uds_find.specs.Finding.{HasPlaces, IsTally, TellsAnswered, TellsAskers, TellsAskings, TellsFunctional}
use Rattle.uds_find.specs.Finding.{is_same_unit_service, number_at}
use Rattle.uds_find.specs.Functional.{is_functional, number_order}
use Rattle.uds_find.specs.declared.pair.IdPair.{IdPair}
use Rattle.uds_find.specs.declared.pair.UnitService.{UnitService}
use Rattle.uds_find.proofs.Orders.{id_order, pair_order, same-id, same-pair}
use Rattle.uds_find.proofs.Tallies.{keys-once}
use lib.ListN.{replicate}

pub nobody-asked : TellsAskers [] (replicate 256 None)
unfolding last_asker
nobody-asked = record { places = length-replicate {A = Option Id} 256 None; each = λ service below. get_or-replicate 256 service None None below }

pub nothing-asked-for : TellsAskings [] (replicate 256 0)
nothing-asked-for = record { places = length-replicate {A = ℕ} 256 0; each = λ service below. get_or-replicate 256 service 0 0 below }

pub nothing-answered : (table : List (UnitService × ℕ)) → table ≡ [] → TellsAnswered [] (number_at table)
unfolding last_asker
nothing-answered table empty = record {
  earlier = λ key. omega (arith, ap (λ t. number_at t key) empty);
  each = λ key tester last apart. absurd (cc last);
}

pub nowhere-answered : (table : List (UnitService × ℕ)) → table ≡ [] → HasPlaces [] table
unfolding has_credited_after
nowhere-answered table empty = λ key. ap (λ t. is_some (lookup (is_same_unit_service key) t)) empty

pub nothing-functional : (functional : List Id) → functional ≡ [] → TellsFunctional [] functional
unfolding is_functional IsStrictlySortedBy
nothing-functional functional empty = record {
  each = λ one. ap (list_any (is_same one)) empty;
  sorted = subst (IsStrictlySortedBy number_order) (sym empty) tt;
}

pub no-credits : (pairs : BTreeMap IdPair ℕ) → pairs.entries ≡ [] → IsOrdered pair_order pairs → IsTally is_same_pair (credit_count []) pairs.entries
unfolding credit_count credits_after
no-credits pairs empty ordered = record {
  once = keys-once pair_order is_same_pair same-pair _ ordered;
  counts = λ pair. ap (lookup (is_same_pair pair)) empty;
}

pub no-requests : (names : BTreeMap Id ℕ) → names.entries ≡ [] → IsOrdered id_order names → IsTally is_same (request_count []) names.entries
unfolding request_count
no-requests names empty ordered = record {
  once = keys-once id_order is_same same-id _ ordered;
  counts = λ name. ap (lookup (is_same name)) empty;
}

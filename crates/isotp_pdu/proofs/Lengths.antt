-- The lengths of frames, and the least one that a first frame announces.
use Rattle.std.proofs.Common.{ℕ, ◌-◌, ◌==◌, ◌<◌, ◌≤◌, arith}
use Rattle.std.specs.Prelude.{IsTrue}
use Rattle.std.proofs.lemmas.Bool.{cond_both, eqb-true}
use Rattle.std.proofs.lemmas.Bool.Decides.{nat_tests}
use Rattle.isotp_pdu.specs.Layout.{is_can_dl, is_rx_dl, least_first}
use Rattle.isotp_pdu.specs.Laws.{CanDlIsAtMost64}

pub can_dl_few : CanDlIsAtMost64
can_dl_few n h = grind (arith, nat_tests)

pub rx_dl_few : (n : ℕ) → IsTrue (is_rx_dl n) → n ≤ 64
rx_dl_few n h = grind (arith, nat_tests)

pub rx_dl_long : (n : ℕ) → IsTrue (is_rx_dl n) → 8 ≤ n
rx_dl_long n h = grind (arith, nat_tests)

pub rx_dl_from : (n : ℕ) → IsTrue (is_can_dl n) → 8 ≤ n → IsTrue (is_rx_dl n)
rx_dl_from n fits long = grind (arith, nat_tests)

pub least_above : (n : ℕ) → 8 ≤ n → n - 2 < least_first n
least_above n long = cond_both (n == 8) 8 (n - 1) (λ m. n - 2 < m) (λ e. omega (arith, eqb-true n 8 e)) (λ _. omega arith)

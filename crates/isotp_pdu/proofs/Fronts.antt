-- Lists with fronts of one length.
use Rattle.std.proofs.Common.{◌≡◌, List, ℕ, ◌++◌, length}
use Rattle.std.proofs.Math.Seq.{take-append_seam}

pub same_front : (a b c d : List ℕ) → length a ≡ length c → a ++ b ≡ c ++ d → a ≡ c
same_front a b c d size same = (let left = take-append_seam a b in let right = take-append_seam c d in cc)

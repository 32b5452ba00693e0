-- What a level's loop reads before it writes the block of a role.
use Rattle.std.proofs.Common.{ℕ, suc, ◌+◌, ◌≡◌, arith}
use Rattle.multisets.specs.Ranks.{starts, first}

-- what is read of the block of role r: where the level before starts, this one, and the block in it, and its length
pub record Read (d n r before here start count : ℕ) : Type 0 where
  pub before_is : before ≡ first d n
  pub here_is : here ≡ first d (suc n)
  pub start_is : start ≡ starts (suc n) r
  pub count_is : count ≡ starts n (suc r)

pub read : {d n r before here start count : ℕ} → before ≡ first d n → here ≡ first d (n + 1) →
    start ≡ starts (n + 1) r → count ≡ starts n (r + 1) → Read d n r before here start count
read {d} {n} {r} before here start count =
    let one : n + 1 ≡ suc n = omega arith in
    let next : r + 1 ≡ suc r = omega arith in
    record { before_is = before; here_is = rw one at here; start_is = rw one at start; count_is = rw next at count }

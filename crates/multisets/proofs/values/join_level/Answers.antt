-- A role more joins the set.
use Rattle.std.proofs.Common.{ℕ, suc, ◌+◌, ◌^◌, ◌<◌, ◌≡◌, sym, arith, rules}
use Rattle.std.specs.Int.Bits.{bit_or}
use native.Mathlib.Nat.{le_refl}
use Rattle.multisets.specs.Ranks.{starts}
use Rattle.multisets.specs.Values.{set_at}
use Rattle.multisets.proofs.Sets.{set_block}
use Rattle.multisets.proofs.values.join_level.Goals as goal

joined : (n r j : ℕ) → r < 8 → j < starts n (suc r) →
    bit_or (set_at n j) (2 ^ r) ≡ set_at (suc n) (starts (suc n) r + j)
joined n r j role some = sym (set_block n r j role some)

pub next_level-requires : goal.next_level-requires
next_level-requires c =
    let p = c.requires in (
      p.0,
      p.1,
      le_refl c.args.d,
      (
        set_at,
        p.2,
        record {
          asks = λ r j role some. search rules;
          makes = λ r j y role some called. let e = joined c.args.n r j (omega arith) some in search rules;
        },
      ),
    )

pub returns : goal.returns
returns c = c.next_level.ensures set_at c.requires.2 (record {
  asks = λ r j role some. search rules;
  makes = λ r j y role some called. let e = joined c.args.n r j (omega arith) some in search rules;
})

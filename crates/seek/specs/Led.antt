-- A search with one entry in front: the fewest beside it.
use Rattle.std.specs.Prelude.{ℕ, suc, ◌^◌, ◌<◌, ◌≤◌, Bool, true, ◌&&◌, ◌≡◌, List, length, get_or, drop, ltb}
use Rattle.std.specs.Prelude.{IfSome, MatchOption}
use Rattle.std.specs.Int.Bits.{bit_or}
use Rattle.std.specs.declared.option.Option.{Option}
use Rattle.std.specs.declared.option.Option.TheVariants.{Some, None}
use Rattle.folds.specs.Sets.{in_set}
use Rattle.multisets.specs.Rising.{Entry}
use Rattle.seek.specs.Search.{met_beside, Meets, FoundBack, group_bytes}
use Rattle.seek.specs.declared.led.Led.{Led}
use Rattle.seek.specs.declared.leading.Place.{Place}

-- the entry in front may be in role r, one of `own`, and has weight there
abbrev pub may_lead : ℕ → List ℕ → ℕ → Bool
may_lead own w r = in_set own r && ltb 0 (get_or w r 0)

-- entries that meet a condition on number, sum and set beside one in role r
abbrev pub MeetsBeside : List ℕ → List ℕ → (ℕ → ℕ → ℕ → Bool) → ℕ → List Entry → Type 0
MeetsBeside sets w condition r g =
    Meets sets w (get_or w r 0) (λ sum set. condition (suc (length g)) sum (bit_or (2 ^ r) set)) g

-- the condition on sum and set of entries beside one in role r that a row and masks tell
abbrev pub met_led : List ℕ → ℕ → ℕ → List ℕ → List ℕ → ℕ → ℕ → Bool
met_led w r row by_sum by_set = met_beside (2 ^ r) row (drop (get_or w r 0) by_sum) by_set

-- of n entries: those found back from the place meet it beside its role, one that may be in front, or none do beside
-- any
pub record TriedLed (sets w : List ℕ) (own d row : ℕ) (by_sum by_set : List ℕ) (n : ℕ) (o : Option Place)
    (ends from : List ℕ) : Type 0 where
  pub tried : MatchOption o
      ((r : ℕ) → r < 8 → may_lead own w r ≡ true → (g : List Entry) → length g ≡ n →
      Meets sets w 0 (met_led w r row by_sum by_set) g → ⊥)
      (λ p. (p.role < 8) × (may_lead own w p.role ≡ true)
      × FoundBack sets w 0 d (met_led w p.role row by_sum by_set) n p.at ends from)

-- the role is one of those in `own` that have weight, and what is found are such entries and their bytes
pub record LedBy (sets w : List ℕ) (own : ℕ) (condition : ℕ → ℕ → ℕ → Bool) (led : Led) : Type 0 where
  pub role : led.role < 8
  pub acting : in_set own led.role ≡ true
  pub heavy : 0 < get_or w led.role 0
  pub group : List Entry
  pub many : length group ≡ led.beside.n
  pub meets : MeetsBeside sets w condition led.role group
  pub bytes : led.beside.group ≡ group_bytes group

-- the number of entries beside it, or 6
abbrev pub number_beside : Option Led → ℕ
number_beside None = 6
number_beside (Some led) = led.beside.n

-- of groups of at most `last` entries these are the fewest
pub record FewestLed (sets w : List ℕ) (own : ℕ) (condition : ℕ → ℕ → ℕ → Bool) (last : ℕ) (o : Option Led)
    : Type 0 where
  pub found : IfSome o (LedBy sets w own condition)
  pub least : (r : ℕ) → r < 8 → in_set own r ≡ true → 0 < get_or w r 0 → (h : List Entry) → length h < last →
      MeetsBeside sets w condition r h → number_beside o ≤ length h

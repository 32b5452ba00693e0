-- A search of the levels by masks of clauses.
use Rattle.std.specs.Prelude.{ℕ, ◌+◌, ◌-◌, ◌*◌, ◌^◌, ◌<◌, ◌≤◌, Bool, true, false, ◌&&◌, not, ◌≡◌, List, ◌++◌}
use Rattle.std.specs.Prelude.{eqb, ltb, length, get_or, replicate, IfSome}
use Rattle.std.specs.Int.Bits.{bit_and, bit_or}
use Rattle.std.specs.declared.option.Option.{Option}
use Rattle.std.specs.declared.option.Option.TheVariants.{Some, None}
use Rattle.folds.specs.Sets.{in_set}
use Rattle.multisets.specs.Ranks.{first}
use Rattle.multisets.specs.Rising.{Entry, Rises, entries_sum, entries_roles, bytes_of}
use Rattle.multisets.specs.Standing.{bytes_back}
use Rattle.multisets.specs.Values.{Light}
use Rattle.multisets.specs.Ends.{NextEnds, back_of, Way}

-- some clause of the row is met by the sum and by the set
abbrev pub met_by : ℕ → List ℕ → List ℕ → ℕ → ℕ → Bool
met_by row by_sum by_set sum set = not (eqb (bit_and (bit_and row (get_or by_sum sum 0)) (get_or by_set set 0)) 0)

-- the condition that rows of clauses by number of entries and masks by sum and by set tell
abbrev pub by_masks : List ℕ → List ℕ → List ℕ → ℕ → ℕ → ℕ → Bool
by_masks rows by_sum by_set n = met_by (get_or rows n 0) by_sum by_set

-- the same with roles in front
abbrev pub met_beside : ℕ → ℕ → List ℕ → List ℕ → ℕ → ℕ → Bool
met_beside front row by_sum by_set sum set = met_by row by_sum by_set sum (bit_or front set)

-- the lengths of the tables by place and of the masks by set; and there is a mask for the sum of each place from `from`
-- on
pub record Tables (from room : ℕ) (ends sums roles by_sum by_set : List ℕ) : Type 0 where
  pub ends_room : room ≤ length ends
  pub sums_room : room ≤ length sums
  pub roles_room : room ≤ length roles
  pub sum_masks : (x : ℕ) → from ≤ x → x < room → get_or sums x 0 < length by_sum
  pub set_masks : length by_set ≡ 256

-- place x is reached, and its sum and set meet the condition
abbrev pub met_at : List ℕ → List ℕ → List ℕ → (ℕ → ℕ → Bool) → ℕ → Bool
met_at ends sums roles met x = met (get_or sums x 0) (get_or roles x 0) && ltb (get_or ends x 0) 255

-- a set of clauses with all that the sum and the set, with the roles in front, of one of the first n places from x on
-- meet
pub record SomeMet (front : ℕ) (sums roles by_sum by_set : List ℕ) (x n all : ℕ) : Type 0 where
  pub has : (i b : ℕ) → i < n → in_set (get_or by_sum (get_or sums (x + i) 0) 0) b ≡ true →
      in_set (get_or by_set (bit_or front (get_or roles (x + i) 0)) 0) b ≡ true → in_set all b ≡ true

-- x is a place from `from` to before `end` that passes the test, or 3,003 where there is none
pub record FoundIn (test : ℕ → Bool) (from end x : ℕ) : Type 0 where
  pub at_most : x ≤ 3003
  pub low : x < 3003 → from ≤ x
  pub high : x < 3003 → x < end
  pub met : x < 3003 → test x ≡ true
  pub none : x ≡ 3003 → (y : ℕ) → from ≤ y → y < end → test y ≡ false

-- a place, or 3,003 for none
abbrev pub place_of : Option ℕ → ℕ
place_of None = 3003
place_of (Some x) = x

-- the same of a place that may be there
pub record FoundAt (test : ℕ → Bool) (from end : ℕ) (o : Option ℕ) : Type 0 where
  pub found : FoundIn test from end (place_of o)
  pub some : IfSome o (λ x. x < 3003)

-- what is asked: roles below `end`, one past the last that has weight; masks that meet no set with a role without
-- weight
pub record Asked (w by_set : List ℕ) (end : ℕ) : Type 0 where
  pub heavy : (r : ℕ) → r < 8 → 0 < get_or w r 0 → r < end
  pub light : (v r : ℕ) → v < 2 ^ end → r < 8 → in_set v r ≡ true → get_or w r 0 ≡ 0 → get_or by_set v 0 ≡ 0

-- what a search among roles below d is handed: weights, next ends of some users, and masks of 256 sums and 256 sets
pub record Ready (d end : ℕ) (w nexts by_sum by_set : List ℕ) : Type 0 where
  pub most : d ≤ 8
  pub end_most : end ≤ d
  pub light : Light w
  pub users : List ℕ
  pub next_ends : NextEnds users nexts
  pub asked : Asked w by_set end
  pub sum_masks : length by_sum ≡ 256
  pub set_masks : length by_set ≡ 256

-- entries by rising user that meet a condition on their sum, with what is placed before, and on their set
pub record Meets (sets w : List ℕ) (placed : ℕ) (condition : ℕ → ℕ → Bool) (g : List Entry) : Type 0 where
  pub rises : Rises sets w 0 g
  pub met : condition (placed + entries_sum w g) (entries_roles g) ≡ true

-- entries found back from place x of the multisets of n roles below d
pub record FoundBack (sets w : List ℕ) (placed d : ℕ) (condition : ℕ → ℕ → Bool) (n x : ℕ) (ends from : List ℕ)
    : Type 0 where
  pub group : List Entry
  pub many : length group ≡ n
  pub meets : Meets sets w placed condition group
  pub bytes : bytes_of group ≡ bytes_back (back_of ends from n x)
  pub way : Way (first d 7) ends from n x

-- of n entries: those found back from place x meet the condition, or none do where x is 3,003
pub record TriedAt (sets w : List ℕ) (placed d : ℕ) (condition : ℕ → ℕ → Bool) (n x : ℕ) (ends from : List ℕ)
    : Type 0 where
  pub at_most : x ≤ 3003
  pub found : x < 3003 → FoundBack sets w placed d condition n x ends from
  pub none : x ≡ 3003 → (g : List Entry) → length g ≡ n → Meets sets w placed condition g → ⊥

-- the same of a place that may be there
pub record TriedWith (sets w : List ℕ) (placed d : ℕ) (condition : ℕ → ℕ → Bool) (n : ℕ) (o : Option ℕ)
    (ends from : List ℕ) : Type 0 where
  pub tried : TriedAt sets w placed d condition n (place_of o) ends from
  pub some : IfSome o (λ x. x < 3003)

-- n is the least number of entries, up to `last`, that meet the condition, and g are some; n is 7 where there are none
pub record Sought (sets w : List ℕ) (placed : ℕ) (condition : ℕ → ℕ → ℕ → Bool) (last n : ℕ) (g : List Entry)
    : Type 0 where
  pub few : n ≤ 7
  pub within : n ≤ 6 → n ≤ last
  pub many : n ≤ 6 → length g ≡ n
  pub meets : n ≤ 6 → Meets sets w placed (condition n) g
  pub least : (h : List Entry) → length h ≤ last → Meets sets w placed (condition (length h)) h → n ≤ length h

-- twelve bytes with the entries g, by rising user, and 255 in every byte left
abbrev pub group_bytes : List Entry → List ℕ
group_bytes g = bytes_of g ++ replicate (12 - 2 * length g) 255

-- the answer of a search: the number of entries, and twelve bytes with them
pub record Answered (sets w : List ℕ) (placed : ℕ) (condition : ℕ → ℕ → ℕ → Bool) (last n : ℕ) (bytes : List ℕ)
    : Type 0 where
  pub group : List Entry
  pub sought : Sought sets w placed condition last n group
  pub shown : n ≤ 6 → bytes ≡ group_bytes group

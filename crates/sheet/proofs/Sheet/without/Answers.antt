-- `without` meets its contract: it keeps the entries of all others, one behind the other.
use Rattle.std.proofs.Common.{ℕ, ◌≤◌, List, ◌++◌, ◌≡◌, ◌∙◌, length}
use borrow.Author.Tests.{eq-eqb, ne_eqb}
use Rattle.decision.specs.Groups.{entry_count, entry_user, entry_role}
use Rattle.sheet.specs.declared.Sheet.{Sheet}
use Rattle.sheet.specs.Sheets.{unsigned, held_on, is_another, with_entry}
use Rattle.sheet.proofs.Holding.{held_few, held_entries}
use Rattle.sheet.proofs.Staying.{StayedYet, none_stayed, room_left, one_stays, one_goes, all_stayed}
use Rattle.sheet.proofs.Sheet.without.Goals as goal

-- six entries at most are held
few_held : (s : Sheet) → length s.entries ≡ 12 → entry_count (held_on s) ≤ 6
few_held s size = rw (held_entries s.count s.entries size) (held_few s.count)

begun : (s : Sheet) (user : ℕ) {left : Sheet} {rest : List ℕ} → left ≡ unsigned s.permission → rest ≡ held_on s →
    entry_count (held_on s) ≤ 6 → StayedYet (is_another user) (held_on s) s.permission left rest
begun s user e f few = rw (e, f) (none_stayed (is_another user) (held_on s) s.permission few)

-- one turn: the entry is another user's, or the user's own
module _ {user : ℕ} {held : List ℕ} {p : ℕ} {left : Sheet} {rest : List ℕ} (entry after : List ℕ)
    (yet : StayedYet (is_another user) held p left rest) (are : rest ≡ entry ++ after) (size : length entry ≡ 2)
    {u r : ℕ} (read : (u ≡ entry_user entry 0) × (r ≡ entry_role entry 0)) {n : ℕ} (first : n ≡ u) where
  stays : {next : Sheet} → (n ≡ user → ⊥) → next ≡ with_entry left u r →
      StayedYet (is_another user) held p next after
  stays h e =
      rw (e, read.0, read.1)
      (one_stays _ _ p entry after yet are size (rw (← read.0, ← first, ne_eqb n user h)))

  goes : n ≡ user → StayedYet (is_another user) held p left after
  goes h = one_goes _ _ p entry after yet are size (rw (← read.0, ← first, eq-eqb n user h))

pub loop-bytes-init : goal.loop-bytes-init
loop-bytes-init c =
    let (are, size) = c.held.ensures in
    let items = c.chunks_exact-bytes-items.ensures in
    let given = c.into_iter-bytes-iterator.ensures.into_iter_gives in
    (begun c.args.self.now c.args.user c.unsigned-left.ensures (cc) (few_held c.args.self.now size), cc)

pub add-requires : goal.add-requires
add-requires c =
    let (_, (are, size), _) = c.in-Some.ensures.steps in
    room_left _ _ _ _ _ c.loop-bytes.invariant.0 are (size ∙ c.loop-bytes.invariant.1)

pub loop-bytes-preserved-then-from-user : goal.loop-bytes-preserved-then-from-user
loop-bytes-preserved-then-from-user c =
    let (same, (are, size), _) = c.in-Some.ensures.steps in
    let (yet, two) = c.loop-bytes.invariant in
    (stays _ _ yet are (size ∙ two) c.of-entry.ensures c.from.ensures c.if-from-user.true c.add.ensures, same ∙ two)

pub loop-bytes-preserved : goal.loop-bytes-preserved
loop-bytes-preserved c =
    let (same, (are, size), _) = c.in-Some.ensures.steps in
    let (yet, two) = c.loop-bytes.invariant in
    (goes _ _ yet are (size ∙ two) c.of-entry.ensures c.from.ensures c.if-from-user.false, same ∙ two)

pub returns : goal.returns
returns c =
    let (_, (short, _), _) = c.in-None.ensures.steps in
    let (yet, two) = c.loop-bytes.invariant in
    all_stayed _ _ _ yet (rw two at short)

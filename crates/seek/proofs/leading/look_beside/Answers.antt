-- `look_beside` meets its contract: with a role in front, sums count from its weight on and sets with it.
use Rattle.std.proofs.Common.{ℕ, ◌^◌, List, ◌≡◌, get_or, drop, ap, ◌∙◌, rules}
use Rattle.multisets.specs.Ends.{NextEnds}
use Rattle.multisets.specs.declared.Weighing.{Weighing}
use Rattle.multisets.specs.declared.ends.Users.{Users}
use Rattle.std.specs.declared.option.Option.{Option}
use Rattle.seek.specs.Search.{TriedWith, met_beside}
use Rattle.seek.specs.Led.{met_led}
use Rattle.seek.specs.Level.{Looking}
use Rattle.seek.proofs.Front.{looking_beside}
use Rattle.seek.proofs.leading.look_beside.Goals as goal

-- by what stands in front
looking_with : (weighing : Weighing) (r : ℕ) (by_sum : List ℕ) {users : Users} {n known front : ℕ}
    {sums above by_set : List ℕ} → front ≡ 2 ^ r → above ≡ drop (get_or weighing.w r 0) by_sum →
    Looking users n weighing known sums (2 ^ r) (drop (get_or weighing.w r 0) by_sum) by_set →
    Looking users n weighing known sums front above by_set
looking_with weighing r by_sum e h l = rw (e, h) l

tried_with : (w by_sum by_set : List ℕ) (r row : ℕ) (users : Users) {n placed front : ℕ} {above ends from : List ℕ}
    {o : Option ℕ} → front ≡ 2 ^ r → above ≡ drop (get_or w r 0) by_sum → placed ≡ 0 →
    ((sets : List ℕ) → NextEnds sets users.nexts →
    TriedWith sets w placed users.d (met_beside front row above by_set) n o ends from) →
    (sets : List ℕ) → NextEnds sets users.nexts →
    TriedWith sets w 0 users.d (met_led w r row by_sum by_set) n o ends from
tried_with w by_sum by_set r row users e h z t = rw (e, h, z) at t

pub look_through-requires : goal.look_through-requires
look_through-requires g c =
    let (few, low, heavy, nobody, looking, all) = c.requires in
    let weighing = c.args.weighing in
    let w = weighing.w in
    let above =
    c.masks_from.ensures ∙ ap (λ (r : ℕ). drop (get_or w r 0) c.args.masks.now.sums) c.from.ensures in (
      search rules,
      (
        search rules,
        looking_with weighing c.args.r c.args.masks.now.sums c.bit.ensures above
            (looking_beside weighing c.args.r looking few low heavy nobody all),
      ),
    )

pub returns : goal.returns
returns g c =
    let (few, low, heavy, nobody, looking, all) = c.requires in
    let m = c.args.masks.now in
    let w = c.args.weighing.w in
    let above = c.masks_from.ensures ∙ ap (λ (r : ℕ). drop (get_or w r 0) m.sums) c.from.ensures in
    tried_with w m.sums m.sets c.args.r c.args.row c.args.tables.now.users c.bit.ensures above nobody
    c.look_through.ensures

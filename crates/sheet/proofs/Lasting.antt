-- What a sheet holds, by what comes before and behind each event: a signing that is accepted where what stood then is
-- held, and that no later event takes back.
use mathlib.Core.Bool.{Bool, true, false, ◌&&◌, ◌||◌, not, cond}
use mathlib.Core.Path.{◌≡◌, refl, sym, ap, ◌∙◌}
use mathlib.Core.List.{List, [], ◌∷◌, ◌++◌, append-nil, append_assoc}
use Rattle.sheet.specs.Signings.{Signing, acceptable}
use Rattle.sheet.specs.Events.{Event, signs, withdraws, takes_back, taken_back, Signature, standing, new_in}
use Rattle.sheet.specs.Events.{signatures_after, signatures, held_after, lasting, lasting_after}
use Rattle.sheet.proofs.Choosing.{those, those_all, those_append, those_both}
use Rattle.sheet.proofs.Happening.{step, standing_step, new_stands}

-- the signatures of the events so far, and one event more
signatures_more : (es : List Event) (before : List Signature) (e : Event) →
    signatures_after before (es ++ (e ∷ [])) ≡ step (signatures_after before es) e
unfolding signatures_after
signatures_more [] before e = refl
signatures_more (d ∷ es) before e = signatures_more es (step before d) e

-- none of the events takes it back
abbrev remains : List Event → Signing → Bool
remains es x = not (taken_back es x)

remains_both : (e : Event) (es : List Event) (x : Signing) → remains (e ∷ es) x ≡ (not (takes_back e x) && remains es x)
unfolding taken_back
remains_both e es x = by (takes_back e x)
  where
    by : (t : Bool) → not (t || taken_back es x) ≡ (not t && remains es x)
    by true = refl
    by false = refl

-- of what an event adds, what remains is what lasts
new_lasts : (before : List Signature) (e : Event) (es : List Event) →
    those (remains es) (standing (new_in (standing before) e)) ≡ lasting (standing before) e es
unfolding new_in lasting those standing
new_lasts before (signs x) es =
    ap (those (remains es)) (new_stands x (acceptable (standing before) x)) ∙ by (acceptable (standing before) x)
  where
    by : (t : Bool) → those (remains es) (cond t (x ∷ []) []) ≡ cond (t && remains es x) (x ∷ []) []
    by true = refl
    by false = refl
new_lasts before (withdraws u) es = refl

-- what stands at the end: of what stood after `past` what remains, and what is added that stays
stands_at_end : (es past : List Event) →
    standing (signatures_after (signatures past) es) ≡ those (remains es) (held_after past) ++ lasting_after past es
unfolding signatures_after lasting_after taken_back
stands_at_end [] past = sym (append-nil _ ∙ those_all (remains []) (held_after past) (λ x. refl))
stands_at_end (e ∷ es) past =
    let before : List Signature = signatures past in
    let held : List Signing = standing before in
    let kept : List Signing = those (λ x. not (takes_back e x)) held in
    let new : List Signing = standing (new_in held e) in
    let more : List Signing = lasting_after (past ++ (e ∷ [])) es in
    let one = signatures_more past [] e in
    let now : held_after (past ++ (e ∷ [])) ≡ kept ++ new = ap standing one ∙ standing_step before e in
    let split : those (remains es) (kept ++ new) ≡ those (remains (e ∷ es)) held ++ lasting held e es =
    those_append (remains es) kept new
    ∙ ap (λ (l : List Signing). l ++ those (remains es) new)
    (those_both _ (remains es) (remains (e ∷ es)) (remains_both e es) held)
    ∙ ap (λ (l : List Signing). those (remains (e ∷ es)) held ++ l) (new_lasts before e es) in
    ap (λ (x : List Signature). standing (signatures_after x es)) (sym one)
    ∙ stands_at_end es (past ++ (e ∷ []))
    ∙ ap (λ (l : List Signing). those (remains es) l ++ more) now
    ∙ ap (λ (l : List Signing). l ++ more) split
    ∙ append_assoc (those (remains (e ∷ es)) held) (lasting held e es) more

pub held_lasting : (es : List Event) → held_after es ≡ lasting_after [] es
unfolding signatures_after standing those
held_lasting es = stands_at_end es []

-- A turn writes the words of a user, by the user's days and the roles in which the user may act.
use Rattle.std.proofs.Common.{ℕ, Bool, List, ◌≡◌, sym, ap, ap₂, ◌∙◌, arith}
use Rattle.reader.specs.Days.{out_of_days}
use Rattle.reader.specs.Fields.{first_day, last_day}
use Rattle.reader.specs.Rules.{outside}
use Rattle.reader.specs.Tables.{users, table_of}
use Rattle.reader.proofs.Frame.{roles_range}
use Rattle.reader.proofs.Accepted.{accepted_frame}
use Rattle.weights.specs.declared.Context.{Context}
use Rattle.decision.specs.Decision.{out_of_date}
use Rattle.batch.proofs.Words.{words_next}
use Rattle.batch.proofs.users.words_of.Goals as goal

-- what is asked of a user's days is asked of the base b, which is seen as d
days_of : (b : List ℕ) (at : Context) (u : ℕ) {d us : List ℕ} {first last : ℕ} {out : Bool} → b ≡ d →
    us ≡ table_of d users → (first ≡ first_day us u) × (last ≡ last_day us u) → out ≡ outside first last at.date →
    out ≡ out_of_date b at u
days_of b at u seen table days is =
    is ∙ ap₂ (λ f l. outside f l at.date) days.0 days.1
    ∙ ap (λ v. out_of_days v at.date u) (table ∙ ap (λ d. table_of d users) (sym seen))

pub loop-u-preserved : goal.loop-u-preserved
loop-u-preserved c =
    let few = (roles_range _ (accepted_frame _ c.roles.ensures.accepted)).1 in
    let late = days_of _ c.args.s.at c.loop-u.u c.by-acting.ensures c.part-users.ensures.table c.of.ensures
    c.leave_out.ensures in
    words_next c.loop-u.invariant (omega arith) few c.user_word-user.ensures late c.roles.ensures.roles
    c.write_words.ensures

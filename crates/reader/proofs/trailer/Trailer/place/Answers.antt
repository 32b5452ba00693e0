-- The bytes read are those that `table_offset` and `table_count` name; a number of two bytes is below 65,536.
use Rattle.std.proofs.Common.{ap, ◌∙◌}
use Rattle.reader.specs.Tables.{table_offset, table_count}
use Rattle.reader.proofs.trailer.Trailer.place.Goals as goal

pub returns-clause-offset : goal.returns-clause-offset
unfolding table_offset
returns-clause-offset c = (c.get16.ensures ∙ ap (λ b. table_offset b c.args.t) c.self.view_is, c.get16.type_inv)

pub returns-clause-count : goal.returns-clause-count
unfolding table_count
returns-clause-count c = (c.get16-2.ensures ∙ ap (λ b. table_count b c.args.t) c.self.view_is, c.get16-2.type_inv)

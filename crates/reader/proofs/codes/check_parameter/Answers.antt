-- So many roles as are read are read as they are.
use Rattle.std.proofs.Common.{◌∙◌}
use Rattle.reader.proofs.Trying.{answer_read}
use Rattle.reader.proofs.codes.check_parameter.Goals as goal

pub returns : goal.returns
returns c = c.try_codes.ensures ∙ answer_read _ _ c.roles_read.ensures.0 c.roles_read.ensures.1

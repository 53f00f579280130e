use Rattle.std.proofs.Common.{◌*◌, ◌+◌}
use Rattle.sml_solve_tests.proofs.script.types.+within.Given as goal

abbrev pub decreases-read_within : goal.decreases-read_within
decreases-read_within l = 2 * l.most + 1

abbrev pub decreases-read_applied : goal.decreases-read_applied
decreases-read_applied l = 2 * l.most + 2

abbrev pub decreases-read_arrow : goal.decreases-read_arrow
decreases-read_arrow l = 2 * l.most + 2

abbrev pub decreases-read_pair : goal.decreases-read_pair
decreases-read_pair l = 2 * l.most + 2

abbrev pub decreases-read_row : goal.decreases-read_row
decreases-read_row l = 2 * l.most + 2

abbrev pub decreases-read_deep : goal.decreases-read_deep
decreases-read_deep l = 2 * l.most + 2

use Rattle.sml_places.proofs.Tops.{places-dont-count}
use Rattle.sml_places.proofs.laws.answers_look_at_no_place.Goals as goal

pub returns : goal.returns
returns c = λ scope. (places-dont-count scope _ _, places-dont-count scope _ _)

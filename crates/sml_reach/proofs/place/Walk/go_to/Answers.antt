use Rattle.std.proofs.Common.{◌++◌, sym, ap, ◌∙◌, arith}
use Rattle.std.specs.Prelude.{slice_range}
use Rattle.sml_reach.specs.Places.{place_after}
use Rattle.sml_reach.proofs.Ways.{slice_range-on}
use Rattle.sml_reach.proofs.place.Walk.go_to.Goals as goal

pub returns-clause-place : goal.returns-clause-place
returns-clause-place c =
    let unit = c.args.unit.now in
    let walk = c.args.self.now in
    c.after_all-self.ensures (slice_range unit walk.start walk.at) c.requires.placed
    ∙ ap (λ xs. place_after (slice_range unit walk.start walk.at ++ xs)) c.text-way.ensures
    ∙ ap place_after (sym (slice_range-on unit walk.start walk.at c.args.at c.requires.ahead c.if-at-self.false))

pub returns-clause-sound : goal.returns-clause-sound
returns-clause-sound c =
    let unit = c.args.unit.now in
    let walk = c.args.self.now in record {
      ahead = let h = c.requires.ahead in let g = c.if-at-self.false in omega (arith, h, g);
      placed = c.after_all-self.ensures (slice_range unit walk.start walk.at) c.requires.placed
          ∙ ap (λ xs. place_after (slice_range unit walk.start walk.at ++ xs)) c.text-way.ensures
          ∙ ap place_after (sym (slice_range-on unit walk.start walk.at c.args.at c.requires.ahead c.if-at-self.false));
    }

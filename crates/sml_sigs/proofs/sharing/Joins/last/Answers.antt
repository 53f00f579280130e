use Rattle.std.proofs.Common.{◌≡◌, ◌-◌, ◌+◌, ℕ, suc, ap, sym, ◌∙◌, arith}
use Rattle.std.specs.Option.{option_map}
use Rattle.sml_objects.specs.Views.{name_of}
use Rattle.sml_type_maps.specs.Mapped.{last_of, names_of}
use Rattle.sml_type_maps.proofs.Listed.{looked-up}
use Rattle.sml_sigs.proofs.Chains.{stays, step-on}
use Rattle.sml_sigs.proofs.sharing.Joins.last.Goals as goal

pub loop-preserved : goal.loop-preserved
loop-preserved c =
    let es = c.args.self.now.others.entries in
    let left : ℕ = c.len-end.result - (c.loop.counter + 1) in
    let one : c.len-end.result - c.loop.counter ≡ suc left = let more = c.loop-test.true in omega (arith, more) in
    let there = sym (looked-up name_of es c.loop.last) ∙ sym (ap (option_map name_of) c.in-Some.ensures.value) in
    c.loop.invariant ∙ ap (λ k. last_of k (names_of es) (name_of c.loop.last)) one
    ∙ step-on (names_of es) left (name_of c.loop.last) (name_of c.in-Some.other.now) there

pub returns-in-None : goal.returns-in-None
returns-in-None c =
    let es = c.args.self.now.others.entries in
    let none = sym (looked-up name_of es c.loop.last) ∙ sym (ap (option_map name_of) c.in-None.ensures.value) in
    sym (c.loop.invariant ∙ stays (names_of es) (c.len-end.result - c.loop.counter) (name_of c.loop.last) none)

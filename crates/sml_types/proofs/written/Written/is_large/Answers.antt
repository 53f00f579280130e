use Rattle.std.proofs.Common.{◌≡◌, ℕ, length, vec_len, ap, ◌∙◌}
use Rattle.std.proofs.lemmas.List.{length-replicate}
use Rattle.sml_types.specs.Meant.{meant}
use Rattle.sml_types.proofs.Counting.{large-beside}
use Rattle.sml_types.proofs.written.Written.is_large.Goals as goal

pub returns : goal.returns
returns c =
    let none : vec_len c.add.new.self.uses ≡ 0 =
    ap vec_len c.add.ensures.uses ∙ c.in_ok-count.count.uses.ok.0 ∙ ap length c.in_ok-count.ensures.1 ∙ length-replicate {A = ℕ} 0 0 in
    c.is_large.ensures
    ∙ large-beside c.in_ok-count.count c.add.new.self c.add-2.new.count c.args.others c.in_ok-number_of.field-0 (meant c.args.self.now)
    c.in_ok-count.ensures.0 none c.in_ok-number_of.ensures c.add.ensures.nodes c.in_ok-add.ensures

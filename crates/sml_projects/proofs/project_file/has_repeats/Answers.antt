use Rattle.std.proofs.Common.{◌∙◌, ap, refl, sym}
use Rattle.std.proofs.lemmas.List.{take_all}
use Rattle.sml_projects.specs.ProjectFiles.{has_repeats}
use Rattle.sml_projects.proofs.Listings.{bytes_in, apart_none, apart_more, apart_again, agrees, differs}
use Rattle.sml_projects.proofs.project_file.has_repeats.Goals as goal

pub loop-word-init : goal.loop-word-init
loop-word-init c = apart_none c.args.words.now c.new-seen.result.keys c.new-seen.ensures.empty

pub returns-then-not-branch : goal.returns-then-not-branch
returns-then-not-branch c =
    sym (apart_again c.args.words.now c.loop-word.seen.keys c.loop-word.word-index _ refl c.loop-word-test.true c.loop-word.invariant (agrees _ _ c.in_ok-insert.ensures.added c.if-not-branch.true))

pub loop-word-preserved : goal.loop-word-preserved
loop-word-preserved c =
    apart_more c.args.words.now c.loop-word.seen.keys c.insert.new.self.keys c.loop-word.word-index _ refl c.loop-word-test.true c.loop-word.invariant (differs _ _ c.in_ok-insert.ensures.added c.if-not-branch.false)
    c.in_ok-insert.ensures.keys

pub returns : goal.returns
returns c = sym (ap (λ l. has_repeats (bytes_in l)) (sym (take_all c.loop-word.word-index c.args.words.now c.loop-word-test.false)) ∙ c.loop-word.invariant.clear)

use Rattle.std.proofs.Common.{◌∙◌, ap, map, string_bytes}
use Rattle.std.proofs.lemmas.List.{take_all}
use Rattle.sml_projects.proofs.Listings.{bytes_in, word_at, name_at, name_utf8, texts-more}
use Rattle.sml_projects.proofs.project_file.texts.Goals as goal

pub loop-word-init : goal.loop-word-init
loop-word-init c = ap (map string_bytes) c.new-texts.ensures.items

pub loop-word-preserved : goal.loop-word-preserved
loop-word-preserved c =
    let items = c.args.words.now in
    let i = c.loop-word.word-index in
    texts-more items i c.loop-word.texts.items c.push.new.self.items c.in_ok-from_utf8_lossy.field-0 c.loop-word-test.true c.loop-word.invariant
    (c.in_ok-from_utf8_lossy.ensures.ok (name_utf8 (word_at items i) (name_at items i c.loop-word-test.true c.requires))) c.in_ok-push.ensures.items

pub returns : goal.returns
returns c = c.loop-word.invariant ∙ ap bytes_in (take_all c.loop-word.word-index c.args.words.now c.loop-word-test.false)

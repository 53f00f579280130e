use Rattle.std.proofs.Common.{◌<◌, ◌++◌, length, set, true, false, ap, sym, ◌∙◌, refl, arith}
use Rattle.std.proofs.lemmas.List.{get_or_default}
use Rattle.sml_equality.proofs.Spreading.{row_at, spread-first, spread-skip, spread-inside, spread-mark, spread-less}
use Rattle.sml_equality.proofs.users.spread.Goals as goal

pub loop-at-init : goal.loop-at-init
loop-at-init c =
    spread-first c.args.users.now c.args.from.now c.in_ok-marks.marks.items c.in_ok-left.left.items c.requires.inside
    (c.in_ok-marks.ensures.items_if_clones_equal (λ y e. e)) c.in_ok-left.ensures.items

pub loop-at-preserved : goal.loop-at-preserved
loop-at-preserved c =
    let us = c.args.users.now in
    let ms = c.loop-at.marks.items in
    let is = c.loop-at.left.items in
    let js = c.pop.new.self.items in
    let at = c.in-Some.at in
    let r = c.loop-at.invariant in
    let h : at < length ms = let i = spread-inside us c.args.from.now ms is js at r c.in-Some.ensures.items in let n = r.len in omega (arith, i, n) in
    spread-skip us c.args.from.now ms is js at r c.in-Some.ensures.items (get_or_default ms at false _ h ∙ (sym c.index.ensures ∙ c.if-not-index.false))

pub loop-at-preserved-in-Continue-branch-3 : goal.loop-at-preserved-in-Continue-branch-3
loop-at-preserved-in-Continue-branch-3 c =
    let us = c.args.users.now in
    let ms = c.loop-at.marks.items in
    let is = c.loop-at.left.items in
    let js = c.pop.new.self.items in
    let at = c.in-Some.at in
    let r = c.loop-at.invariant in
    let i = spread-inside us c.args.from.now ms is js at r c.in-Some.ensures.items in
    let row = row_at us at c.index-users-at.result i c.index-users-at.is in
    spread-mark us c.args.from.now ms is js at (set ms at true) c.extend_from_slice.new.self.items c.requires.sound r c.in-Some.ensures.items refl (c.in_ok-extend_from_slice.ensures.items ∙ ap (λ x. js ++ x) (c.deref.ensures.value ∙ sym row))

pub loop-at-smaller-in-Continue-branch-3 : goal.loop-at-smaller-in-Continue-branch-3
loop-at-smaller-in-Continue-branch-3 c =
    let us = c.args.users.now in
    let ms = c.loop-at.marks.items in
    let is = c.loop-at.left.items in
    let js = c.pop.new.self.items in
    let at = c.in-Some.at in
    let r = c.loop-at.invariant in
    let i = spread-inside us c.args.from.now ms is js at r c.in-Some.ensures.items in
    let h : at < length ms = let n = r.len in omega (arith, i, n) in
    let row = row_at us at c.index-users-at.result i c.index-users-at.is in
    spread-less us c.args.from.now ms (set ms at true) is js c.extend_from_slice.new.self.items at r c.in-Some.ensures.items (get_or_default ms at false _ h ∙ (sym c.index.ensures ∙ c.if-not-index.true)) refl (c.in_ok-extend_from_slice.ensures.items ∙ ap (λ x. js ++ x) (c.deref.ensures.value ∙ sym row))

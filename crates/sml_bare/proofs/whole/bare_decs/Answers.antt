use Rattle.std.proofs.Common.{◌≡◌, ℕ, ◌+◌, ◌∷◌, ◌++◌, List, [], map, length, drop, sym, ap, ◌∙◌, subst, arith}
use Rattle.std.specs.Prelude.{Vec}
use Rattle.std.specs.Global.{Global}
use Rattle.std.proofs.lemmas.List.{length_push}
use Rattle.sml_tree.specs.StructureViews.{top_of}
use Rattle.sml_tree.specs.declared.structures.TopDec.{TopDec}
use Rattle.sml_reach.specs.Fits.{fitted_of}
use Rattle.sml_bare.specs.Derivations.{bare_decs, bare_dec_at}
use Rattle.sml_reach.proofs.UpTo.{IsShort}
use Rattle.sml_reach.proofs.UpTo.{length-map}
use Rattle.sml_reach.proofs.UpTo.{all_left}
use Rattle.sml_bare.proofs.Wholes.{somes, rest, leaf_on, passed_on, begun_on, full_on, high_on, all_on, somes_on, many_of, short_on}
use Rattle.std.proofs.Math.ListN.{drop_of_length-le}
use Rattle.sml_bare.proofs.whole.bare_decs.Goals.{in-Leaf, in-Inner+then-begins_at+else-is_full+in_ok-top-in-Inner+in-Some+in_ok-push-in-Inner, in-Inner+else-begins_at}
use Rattle.sml_bare.proofs.whole.bare_decs.Goals as goal

pub returns-then-is_full : goal.returns-then-is_full
returns-then-is_full c =
    let inv = c.loop-i.invariant in
    let ds = c.loop-i.declarations.items in
    full_on c.args.most _ _ (map top_of ds) c.len-count.result inv.kept inv.short (c.len-count.ensures ∙ c.loop-i.declarations.ok.0 ∙ sym (length-map top_of ds)) (sym c.is_full.ensures ∙ c.if-is_full.true)

pub returns-in_default : goal.returns-in_default
returns-in_default c =
    let inv = c.loop-i.invariant in
    let ds = c.loop-i.declarations.items in
    let fitted = map fitted_of c.args.fitted.now in
    let unit = c.args.unit.now in
    let tokens = c.args.tokens.now in
    let nodes = c.args.nodes.now in
    let n = c.loop-i.first in
    let i = c.loop-i.i in
    let own = c.before_end-own.result.now in
    let k = c.len-count.ensures ∙ c.loop-i.declarations.ok.0 in
    let e = rw c.in_default.is at c.in_ok-top-in-Inner.ensures in
    let none = sym (e ∙ ap (λ m. bare_dec_at unit tokens n own (drop m fitted)) k) in
    let next = begun_on unit tokens nodes fitted n i (length ds) c.in-Inner.rule own _ _ c.loop-i-test.true c.in-Inner.is (sym c.begins_at.ensures ∙ c.if-begins_at.true) (all_left nodes (i + 1)) c.before_end-own.ensures in
    high_on c.args.most _ _ (map top_of ds) c.len-count.result (inv.kept ∙ ap (λ xs. somes (map top_of ds) ++ xs) (next ∙ ap (λ o. o ∷ rest unit tokens nodes fitted n (i + 1) (length ds + 1)) none)) inv.short (k ∙ sym (length-map top_of ds)) (sym c.is_full.ensures ∙ c.if-is_full.false)

pub loop-i-preserved : goal.loop-i-preserved
loop-i-preserved c =
    let inv = c.loop-i.invariant in
    let ds = c.loop-i.declarations.items in
    let fitted = map fitted_of c.args.fitted.now in
    let unit = c.args.unit.now in
    let tokens = c.args.tokens.now in
    let nodes = c.args.nodes.now in
    let n = c.loop-i.first in
    let i = c.loop-i.i in
    let before = somes (map top_of ds) in
    elim c.match-nodes-i.branch [
      | in-Leaf w ↦ record {
        kept = inv.kept ∙ ap (λ xs. before ++ xs) (leaf_on unit tokens nodes fitted n i (length ds) _ c.loop-i-test.true w.in-Leaf.is) ∙ moved _ _ _ _ (sym (ap items_of w.declarations-is)) (sym w.first-is);
        short = kept_short _ _ (sym (ap items_of w.declarations-is)) inv.short;
        few = omega (arith, w.first-is, inv.few);
      }
      | in-Inner+then-begins_at+else-is_full+in_ok-top-in-Inner+in-Some+in_ok-push-in-Inner w ↦
          let own = w.before_end-own.result.now in
          let k = w.len-count.ensures ∙ c.loop-i.declarations.ok.0 in
          let top = w.in-Some.top in
          let e = rw w.in-Some.is at w.in_ok-top-in-Inner.ensures in
          let some = sym (e ∙ ap (λ m. bare_dec_at unit tokens n own (drop m fitted)) k) in
          let next = begun_on unit tokens nodes fitted n i (length ds) w.in-Inner.rule own _ _ c.loop-i-test.true w.in-Inner.is (sym w.begins_at.ensures ∙ w.if-begins_at.true) (all_left nodes (i + 1)) w.before_end-own.ensures in
          let items = sym (ap items_of w.declarations-is ∙ w.in_ok-push-in-Inner.ensures.items) in
          record {
            kept = inv.kept ∙ ap (λ xs. before ++ xs) (next ∙ ap (λ o. o ∷ rest unit tokens nodes fitted n (i + 1) (length ds + 1)) some)
                ∙ somes_on top_of ds top (rest unit tokens nodes fitted n (i + 1) (length ds + 1))
                ∙ ap (λ m. somes (map top_of (ds ++ top ∷ [])) ++ rest unit tokens nodes fitted n (i + 1) m) (sym (length_push ds top))
                ∙ moved _ _ _ _ items (sym w.first-is);
            short = short_on c.args.most w.len-count.result _ (sym w.is_full.ensures ∙ w.if-is_full.false) (many_of top_of _ ∙ ap length (sym items) ∙ length_push ds top ∙ ap (λ m. m + 1) (sym k));
            few = omega (arith, w.first-is, inv.few);
          }
      | in-Inner+else-begins_at w ↦ record {
        kept = inv.kept ∙ ap (λ xs. before ++ xs) (passed_on unit tokens nodes fitted n i (length ds) w.in-Inner.rule _ c.loop-i-test.true w.in-Inner.is (sym w.begins_at.ensures ∙ w.if-begins_at.false)) ∙ moved _ _ _ _ (sym (ap items_of w.declarations-is)) (sym w.first-is);
        short = kept_short _ _ (sym (ap items_of w.declarations-is)) inv.short;
        few = omega (arith, w.first-is, inv.few);
      }
    ]
  where
    items_of : Vec TopDec Global → List TopDec
    items_of v = v.items

    moved : (xs ys : List TopDec) (n m : ℕ) → xs ≡ ys → n ≡ m → somes (map top_of xs) ++ rest c.args.unit.now c.args.tokens.now c.args.nodes.now (map fitted_of c.args.fitted.now) n (c.loop-i.i + 1) (length xs) ≡ somes (map top_of ys) ++ rest c.args.unit.now c.args.tokens.now c.args.nodes.now (map fitted_of c.args.fitted.now) m (c.loop-i.i + 1) (length ys)
    moved xs ys n m e f =
        ap (λ zs. somes (map top_of zs) ++ rest c.args.unit.now c.args.tokens.now c.args.nodes.now (map fitted_of c.args.fitted.now) n (c.loop-i.i + 1) (length zs)) e
        ∙ ap (λ k. somes (map top_of ys) ++ rest c.args.unit.now c.args.tokens.now c.args.nodes.now (map fitted_of c.args.fitted.now) k (c.loop-i.i + 1) (length ys)) f

    kept_short : (xs ys : List TopDec) → xs ≡ ys → IsShort c.args.most (length (somes (map top_of xs))) → IsShort c.args.most (length (somes (map top_of ys)))
    kept_short xs ys e h = subst (λ zs. IsShort c.args.most (length (somes (map top_of zs)))) e h

pub returns : goal.returns
returns c =
    let inv = c.loop-i.invariant in
    let ds = c.loop-i.declarations.items in
    all_on c.args.most _ (map top_of ds) (inv.kept ∙ ap (λ ns. somes (map top_of ds) ++ bare_decs c.args.unit.now c.args.tokens.now c.loop-i.first ns (drop (length ds) (map fitted_of c.args.fitted.now))) (drop_of_length-le c.args.nodes.now c.loop-i-test.false)) inv.short

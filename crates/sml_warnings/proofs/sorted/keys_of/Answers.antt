use Rattle.std.proofs.Common.{◌≡◌, ℕ, ◌+◌, ◌<◌, length, get_or, take, List, [], ◌∷◌, ◌++◌, map, ap, sym, ◌∙◌}
use Rattle.std.proofs.lemmas.List.{map-append, take_more}
use Rattle.sml_lex.specs.declared.fault.Warning.{Warning}
use Rattle.sml_warnings.specs.Sorting.{IsOfMatch, AreOfMatches, warning_of}
use Rattle.sml_warnings.specs.declared.sorted.Key.{Key}
use Rattle.sml_warnings.proofs.sorted.keys_of.Goals as goal

keys_go : (ws : List Warning) (i : ℕ) (d : Warning) (old new : List Key) (k : Key) → i < length ws → new ≡ old ++ k ∷ [] → (IsOfMatch (get_or ws i d).code → warning_of k ≡ get_or ws i d) → (AreOfMatches ws → map warning_of old ≡ take i ws) → AreOfMatches ws → map warning_of new ≡ take (i + 1) ws
keys_go ws i d old new k lt e h sofar are =
    ap (map warning_of) e ∙ map-append warning_of old (k ∷ []) ∙ ap (λ xs. xs ++ warning_of k ∷ []) (sofar are) ∙ ap (λ w. take i ws ++ w ∷ []) (h (are i d lt)) ∙ sym (take_more ws i d lt)

pub loop-warning-preserved : goal.loop-warning-preserved
loop-warning-preserved c =
    keys_go c.args.warnings.now c.loop-warning.warning-index _ c.loop-warning.keys.items c.push.new.self.items c.key_of.result c.loop-warning-test.true c.in_ok-push.ensures.items c.key_of.ensures c.loop-warning.invariant

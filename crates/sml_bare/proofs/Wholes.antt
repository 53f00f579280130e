-- A step over the nodes of a unit, and the declarations where it ends.
use Rattle.std.proofs.Common.{◌≡◌, ℕ, suc, ◌+◌, ◌<◌, List, [], ◌∷◌, ◌++◌, Option, Some, None, Bool, true, false, map, length, drop, get_or, refl, sym, ap, ◌∙◌, arith, append-nil}
use Rattle.std.specs.List.{list_all, before_first}
use Rattle.std.specs.Option.{is_some}
use Rattle.std.proofs.lemmas.List.{drop_more, drop-drop}
use Rattle.std.proofs.lemmas.Bool.{cond-true, cond-false, leb-false}
use Rattle.sml_lex.specs.declared.fault.Place.{Place}
use Rattle.sml_lex.specs.declared.token.Token.{Token}
use Rattle.sml_tree.specs.Structures.{TopDec}
use Rattle.sml_tree.specs.declared.structures.TopDec as P
use Rattle.sml_read.specs.declared.grammar.Rule.{Rule}
use Rattle.sml_read.specs.declared.grammar.Node.{Node}
use Rattle.sml_read.specs.declared.grammar.Node.TheVariants.{Leaf, Inner}
use Rattle.sml_reach.specs.Fits.{Fitted}
use Rattle.sml_flaws.specs.Flawed.{begins_at, ends_at}
use Rattle.sml_reach.specs.Reach.{up_to}
use Rattle.sml_reach.specs.Reach.{is_full}
use Rattle.sml_bare.specs.Derivations.{bare_dec_at, bare_decs, before_none}
use Rattle.sml_reach.proofs.UpTo.{up_to-nil}
use Rattle.sml_reach.proofs.UpTo.{up_to-none}
use Rattle.sml_reach.proofs.UpTo.{up_to-more}
use Rattle.sml_reach.proofs.UpTo.{up_to-append}
use Rattle.sml_reach.proofs.UpTo.{fewer}
use Rattle.sml_reach.proofs.UpTo.{left}
use Rattle.sml_reach.proofs.UpTo.{IsShort}
use Rattle.sml_reach.proofs.UpTo.{length-map}

abbrev pub somes : List (TopDec Place) → List (Option (TopDec Place))
somes tops = map (λ t. Some t) tops

module _ (unit : List ℕ) (tokens : List Token) (nodes : List Node) (fitted : List Fitted) where
  -- the declarations of what is left
  abbrev pub rest : ℕ → ℕ → ℕ → List (Option (TopDec Place))
  rest n i count = bare_decs unit tokens n (drop i nodes) (drop count fitted)

  split : (i : ℕ) (node d : Node) → i < length nodes → get_or nodes i d ≡ node → drop i nodes ≡ node ∷ drop (i + 1) nodes
  split i node d w e = drop_more nodes i d w ∙ ap (λ x. x ∷ drop (i + 1) nodes) e

  pub leaf_on : (n i count : ℕ) (d : Node) → i < length nodes → get_or nodes i d ≡ Leaf → rest n i count ≡ rest (n + 1) (i + 1) count
  leaf_on n i count d w e =
      ap (λ ns. bare_decs unit tokens n ns (drop count fitted)) (split i Leaf d w e)
      ∙ ap (λ m. bare_decs unit tokens m (drop (i + 1) nodes) (drop count fitted)) (let s : suc n ≡ n + 1 = omega arith in s)

  pub passed_on : (n i count : ℕ) (rule : Rule) (d : Node) → i < length nodes → get_or nodes i d ≡ Inner rule → begins_at rule ≡ false → rest n i count ≡ rest n (i + 1) count
  passed_on n i count rule d w e b = ap (λ ns. bare_decs unit tokens n ns (drop count fitted)) (split i (Inner rule) d w e) ∙ cond-false _ _ _ b

  pub begun_on : (n i count : ℕ) (rule : Rule) (own after : List Node) (d : Node) → i < length nodes → get_or nodes i d ≡ Inner rule → begins_at rule ≡ true → after ≡ drop (i + 1) nodes → own ≡ before_first ends_at after
      → rest n i count ≡ bare_dec_at unit tokens n own (drop count fitted) ∷ rest n (i + 1) (count + 1)
  begun_on n i count rule own after d w e b h o =
      ap (λ ns. bare_decs unit tokens n ns (drop count fitted)) (split i (Inner rule) d w e) ∙ cond-true _ _ _ b
      ∙ ap (λ ns. bare_dec_at unit tokens n ns (drop count fitted) ∷ bare_decs unit tokens n (drop (i + 1) nodes) (drop 1 (drop count fitted))) (sym (o ∙ ap (before_first ends_at) h))
      ∙ ap (λ fs. bare_dec_at unit tokens n own (drop count fitted) ∷ bare_decs unit tokens n (drop (i + 1) nodes) fs) (drop-drop 1 count fitted)

before_somes : (tops : List (TopDec Place)) (others : List (Option (TopDec Place))) → before_none (somes tops ++ others) ≡ tops ++ before_none others
before_somes [] others = refl
before_somes (t ∷ tops) others = ap (λ ts. t ∷ ts) (before_somes tops others)

all_somes : (tops : List (TopDec Place)) (others : List (Option (TopDec Place))) → list_all is_some (somes tops ++ others) ≡ list_all is_some others
all_somes [] others = refl
all_somes (t ∷ tops) others = all_somes tops others

abbrev pub Ends : Option ℕ → List (Option (TopDec Place)) → List (TopDec Place) → Bool → Type 0
Ends most all tops low = (tops ≡ before_none (up_to most all)) × (low ≡ list_all is_some (up_to most all))

ended : (most : Option ℕ) (all others : List (Option (TopDec Place))) (tops : List (TopDec Place)) (low : Bool) → up_to most all ≡ somes tops ++ others → before_none others ≡ [] → low ≡ list_all is_some others → Ends most all tops low
ended most all others tops low e n l = (
  sym (ap before_none e ∙ before_somes tops others ∙ ap (λ ts. tops ++ ts) n ∙ append-nil tops),
  l ∙ sym (ap (list_all is_some) e ∙ all_somes tops others),
)

many : (tops : List (TopDec Place)) → length (somes tops) ≡ length tops
many tops = length-map (λ t. Some t) tops

-- where no more may come
pub full_on : (most : Option ℕ) (all others : List (Option (TopDec Place))) (tops : List (TopDec Place)) (count : ℕ) → all ≡ somes tops ++ others → IsShort most (length (somes tops)) → count ≡ length tops → is_full most count ≡ true → Ends most all tops true
full_on most all others tops count kept short c full =
    ended most all [] tops true (ap (up_to most) kept ∙ up_to-append most (somes tops) others short ∙ ap (λ ds. somes tops ++ ds) (up_to-none most (length (somes tops)) others (ap (is_full most) (many tops ∙ sym c) ∙ full))) refl refl

-- where the next one is too high
pub high_on : (most : Option ℕ) (all others : List (Option (TopDec Place))) (tops : List (TopDec Place)) (count : ℕ) → all ≡ somes tops ++ None ∷ others → IsShort most (length (somes tops)) → count ≡ length tops → is_full most count ≡ false → Ends most all tops false
high_on most all others tops count kept short c full =
    ended most all (None ∷ up_to (fewer (left most (length (somes tops)))) others) tops false (ap (up_to most) kept ∙ up_to-append most (somes tops) (None ∷ others) short ∙ ap (λ ds. somes tops ++ ds) (up_to-more most (length (somes tops)) None others (ap (is_full most) (many tops ∙ sym c) ∙ full))) refl refl

-- where there are no more
pub all_on : (most : Option ℕ) (all : List (Option (TopDec Place))) (tops : List (TopDec Place)) → all ≡ somes tops ++ [] → IsShort most (length (somes tops)) → Ends most all tops true
all_on most all tops kept short =
    ended most all [] tops true (ap (up_to most) kept ∙ up_to-append most (somes tops) [] short ∙ ap (λ ds. somes tops ++ ds) (up_to-nil (left most (length (somes tops))))) refl refl

-- one more
pub somes_on : (f : P.TopDec → TopDec Place) (ds : List P.TopDec) (d : P.TopDec) (others : List (Option (TopDec Place))) → somes (map f ds) ++ Some (f d) ∷ others ≡ somes (map f (ds ++ d ∷ [])) ++ others
somes_on f [] d others = refl
somes_on f (x ∷ ds) d others = ap (λ ts. Some (f x) ∷ ts) (somes_on f ds d others)

pub many_of : (f : P.TopDec → TopDec Place) (ds : List P.TopDec) → length (somes (map f ds)) ≡ length ds
many_of f ds = many (map f ds) ∙ length-map f ds

pub short_on : (most : Option ℕ) (count k : ℕ) → is_full most count ≡ false → k ≡ count + 1 → IsShort most k
short_on None count k full e = tt
short_on (Some most) count k full e = let l = leb-false most count full in omega (arith, l, e)

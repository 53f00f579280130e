-- Samples of likeness.
use Rattle.std.proofs.Common.{refl, inl, inr}
use Rattle.sml_places.specs.Likeness.{AreSealedAlike}
use Rattle.sml_places.specs.Places.{place_sig, place_specs, place_str, place_str_decs}
use Rattle.sml_run_rules.specs.Samples.{LikenessSamples, at, empty_body, other_body, sealed}
use Rattle.sml_tree.specs.Signatures.{sig_end, no_spec}

sealed-bodies : AreSealedAlike (sealed 5 empty_body) (sealed 7 other_body)
unfolding place_sig place_specs
sealed-bodies = record {
  first_place = at 5;
  second_place = at 7;
  first_body = empty_body;
  second_body = other_body;
  first_signature = sig_end (at 5) no_spec;
  second_signature = sig_end (at 7) no_spec;
  first = refl;
  second = refl;
  signatures = refl;
}

pub likeness-samples : LikenessSamples
unfolding place_sig place_specs place_str place_str_decs
likeness-samples = record {
  sealed_alike = (refl, inr sealed-bodies, (refl, inl refl, tt));
  opened_alike = (
    (
      refl,
      refl,
      refl,
      inr (record {
        first_body = sealed 5 empty_body;
        second_body = sealed 7 other_body;
        first = record { place = at 30; open_place = at 30; name_place = at 30; is = refl };
        second = record { place = at 30; open_place = at 30; name_place = at 30; is = refl };
        alike = sealed-bodies;
      }),
    ),
    tt,
  );
  transparent_differ = λ h. elim h.1 [ inl e ↦ cc | inr s ↦ let first = s.first in cc ];
  plain_differ = λ h. elim h.1 [ inl e ↦ cc | inr s ↦ let first = s.first in cc ];
}

-- The text of an automaton with named propositions reads as that automaton.
use Rattle.std.proofs.Common.{◌≡◌, ℕ, ◌^◌, ◌<◌, true, List, ◌∷◌, ◌++◌, length, codes, decimal, refl, sym, subst, arith, append_assoc}
use Rattle.std.specs.Prelude.{flat_map}
use Rattle.std.specs.List.{range_with_len}
use Rattle.ltl_spec.specs.Semantics.Word.{Name}
use Rattle.ltl_spec.specs.Formulas.Formula.{Constant, Reading}
use Rattle.ltl_spec.specs.Automata.Automaton.{Automaton}
use Rattle.ltl_spec.specs.Automata.ClaimText.{line}
use Rattle.ltl_spec.specs.Automata.HoaText.{names_line, quoted}
use Rattle.ltl_spec.specs.Automata.GeneralizedText.{acceptance_name, acceptance_text, generalized_text, marked_state_lines}
use Rattle.ltl_spec.specs.Tools.Limits.{Limits}
use Rattle.ltl_spec.specs.Hoa.HoaToken.{Int, hoa_tokens}
use Rattle.ltl_spec.specs.Hoa.HoaReading.{HoaReadsWithin}
use Rattle.ltl_spec.specs.Hoa.HoaPrinted.{IsPrinted, marked_of}
use Rattle.ltl_spec.proofs.Hoa.GeneralizedBack.{AreUsual, generalized_reads}
use Rattle.ltl_spec.proofs.Hoa.SpelledStates.{states_line}
use Rattle.ltl_text.specs.NamedText.{named_text}
use Rattle.ltl_text.proofs.UnnamedLaws.{BeginsItem, untitled_reads}

-- some formula with these names
abbrev pub some_reading : List Name → Reading
some_reading names = record { formula = Constant true; names = names }

module _ (A : Automaton) (names : List Name) where
  abbrev states : List ℕ
  states = flat_map (marked_state_lines A) (range_with_len 0 (length A.states))

  -- the lines behind that of the number of states, and behind the first one
  abbrev further : List ℕ
  further =
      line (codes "Start: 0")
      ++ (names_line names ++ (line (codes "acc-name: " ++ acceptance_name A.sets) ++ (line (codes "Acceptance: " ++ acceptance_text A.sets)
      ++ (line (codes "properties: trans-labels explicit-labels trans-acc") ++ (line (codes "--BODY--") ++ (states ++ line (codes "--END--")))))))

  abbrev behind : List ℕ
  behind = line (codes "States: " ++ decimal (length A.states)) ++ further

  named_lines : named_text A names ≡ line (codes "HOA: v1") ++ behind
  named_lines =
      regroup (line (codes "HOA: v1")) (line (codes "States: " ++ decimal (length A.states))) (line (codes "Start: 0")) (names_line names) (line (codes "acc-name: " ++ acceptance_name A.sets))
      (line (codes "Acceptance: " ++ acceptance_text A.sets)) (line (codes "properties: trans-labels explicit-labels trans-acc")) (line (codes "--BODY--")) states (line (codes "--END--"))
    where
      regroup : (h s t n a c p b e z : List ℕ) → ((((((((h ++ s) ++ t) ++ n) ++ a) ++ c) ++ p) ++ b) ++ e) ++ z ≡ h ++ (s ++ (t ++ (n ++ (a ++ (c ++ (p ++ (b ++ (e ++ z))))))))
      regroup h s t n a c p b e z = simp append_assoc

  titled_lines : generalized_text A (some_reading names) ≡ line (codes "HOA: v1") ++ (line (codes "name: " ++ quoted (codes "true")) ++ behind)
  titled_lines =
      regroup (line (codes "HOA: v1")) (line (codes "name: " ++ quoted (codes "true"))) (line (codes "States: " ++ decimal (length A.states))) (line (codes "Start: 0")) (names_line names) (line (codes "acc-name: " ++ acceptance_name A.sets))
      (line (codes "Acceptance: " ++ acceptance_text A.sets)) (line (codes "properties: trans-labels explicit-labels trans-acc")) (line (codes "--BODY--")) states (line (codes "--END--"))
    where
      regroup : (h m s t n a c p b e z : List ℕ) → (((((((((h ++ m) ++ s) ++ t) ++ n) ++ a) ++ c) ++ p) ++ b) ++ e) ++ z ≡ h ++ (m ++ (s ++ (t ++ (n ++ (a ++ (c ++ (p ++ (b ++ (e ++ z)))))))))
      regroup h m s t n a c p b e z = simp append_assoc

  module _ (l : Limits) (most : ℕ) (usual : AreUsual l most) (p : IsPrinted l most A (some_reading names)) where
    abbrev long : Limits
    long = record l { hoa_bytes = length (generalized_text A (some_reading names)) }

    long_usual : AreUsual long most
    long_usual = record { states = usual.states; names = usual.names; sets = usual.sets; cubes = usual.cubes }

    long_printed : IsPrinted long most A (some_reading names)
    long_printed = record {
      some = p.some;
      few_states = p.few_states;
      few_edges = p.few_edges;
      few_sets = p.few_sets;
      few_names = p.few_names;
      propositions = p.propositions;
      differ = p.differ;
      within = p.within;
    }

    few_states : length A.states < 2 ^ 64
    few_states = let a = p.few_states in let b = usual.states in omega arith

    pub named_reads : HoaReadsWithin (record l { hoa_bytes = length (named_text A names) }) most (named_text A names) (marked_of A names)
    named_reads =
        let titled = generalized_reads long most long_usual A (some_reading names) long_printed (omega arith) in
        let begins : BeginsItem (hoa_tokens behind) = (codes "States", Int (length A.states) ∷ hoa_tokens further, states_line (length A.states) few_states further) in
        subst (λ (t : List ℕ). HoaReadsWithin (record l { hoa_bytes = length t }) most t (marked_of A names)) (sym named_lines)
        (untitled_reads long most (marked_of A names) (codes "true") refl behind begins (subst (λ (t : List ℕ). HoaReadsWithin long most t (marked_of A names)) titled_lines titled))

-- A claim without a comment is read as the same claim with one.
use Rattle.std.proofs.Common.{◌≡◌, ◌∙◌, ◌<◌, ap, sym, refl, ℕ, List, ◌∷◌, ◌++◌, length, Some, append_assoc, codes, arith}
use Rattle.std.specs.Prelude.{IsTrue, option_and_then}
use Rattle.std.specs.List.{list_all}
use Rattle.ltl_spec.specs.Collections.Sets.{Has}
use Rattle.ltl_spec.specs.Semantics.Word.{Name}
use Rattle.ltl_spec.specs.Formulas.Names.{is_proposition}
use Rattle.ltl_spec.specs.Automata.Automaton.{Automaton, Edge, state_at}
use Rattle.ltl_spec.specs.Automata.ClaimText.{line, never_text}
use Rattle.ltl_spec.specs.Checking.Bounds.{HasNamesBelow, IsBuchi}
use Rattle.ltl_spec.specs.Claims.ClaimTokens.{Never, OpenBrace, HasNoPromelaWord, claim_tokens}
use Rattle.ltl_spec.specs.Claims.ClaimMachine.{Sofar, at_first, claim_program, ended, taken_all}
use Rattle.ltl_spec.proofs.Automata.ListedStates.{has_edge_below, no_state}
use Rattle.ltl_spec.proofs.Claims.ClaimBack.{printed_claim}
use Rattle.ltl_spec.proofs.Collections.ListLaws.{Has-at}
use Rattle.ltl_models.specs.BaView.{IsBa}
use Rattle.ltl_text.specs.Blocks.{blocks_text}
use Rattle.ltl_text.specs.NamedClaim.{named_claim}
use Rattle.ltl_text.specs.ReadBack.{IsClaimOf}
use Rattle.ltl_text.proofs.BackLaws.{each}
use Rattle.ltl_text.proofs.BlockLaws.{claim_pieces}
use Rattle.ltl_text.proofs.NamedLaws.{some_reading}

-- the pieces of the text
pub named_pieces : (B : Automaton) (names : List Name) → named_claim B names ≡ line (codes "never {") ++ (blocks_text B names ++ line (codes "}"))
named_pieces B names = append_assoc (line (codes "never {")) (blocks_text B names) (line (codes "}"))

-- the first line of either claim
plain_head : (rest : List ℕ) → claim_tokens (line (codes "never {") ++ rest) ≡ Never ∷ OpenBrace ∷ claim_tokens rest
plain_head rest = refl

commented_head : (rest : List ℕ) → claim_tokens (line (codes "never { /* true */") ++ rest) ≡ Never ∷ OpenBrace ∷ claim_tokens rest
commented_head rest = refl

module _ (B : Automaton) (names : List Name) where
  abbrev behind : List ℕ
  behind = blocks_text B names ++ line (codes "}")

  same_tokens : claim_tokens (named_claim B names) ≡ claim_tokens (never_text B (some_reading names))
  same_tokens = ap claim_tokens (named_pieces B names) ∙ plain_head behind ∙ sym (ap claim_tokens (claim_pieces B (some_reading names)) ∙ commented_head behind)

  same_program : claim_program (named_claim B names) ≡ claim_program (never_text B (some_reading names))
  same_program = ap (λ ts. option_and_then (λ (s : Sofar). ended s.symbols s.built.program) (taken_all (Some at_first) ts)) same_tokens

  -- it accepts the words of the automaton
  pub claim_back : IsBa B → HasNamesBelow (length names) B → IsTrue (list_all is_proposition names) → HasNoPromelaWord names → IsClaimOf names B (named_claim B names)
  claim_back ba named proper free =
      let good : IsBuchi (length names) B = record { sets = ba.no_sets; begins = ba.some; inside = inside ba; propositions = named } in
      let few = ba.few_states in
      let (P, q, same) = printed_claim B (some_reading names) good (omega (arith, few)) proper free in
      (P, same_program ∙ q, same)
    where
      inside : IsBa B → (s : ℕ) (e : Edge) → Has (state_at B s).edges e → e.target < length B.states
      inside ba s e h = each (λ (x : Edge). x.target < length B.states) B.states ba.within (state_at B s) (Has-at B.states s no_state (has_edge_below B s e h)) e h

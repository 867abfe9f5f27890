-- The texts that read as an automaton with the words of a claim.
use Rattle.std.specs.Prelude.{◌≡◌, ◌<◌, ◌↔◌, ℕ, List, length}
use Rattle.ltl_spec.specs.Semantics.Word.{Lasso}
use Rattle.ltl_spec.specs.Checking.Check.{MarkedAccepts}
use Rattle.ltl_spec.specs.Hoa.HoaToken.{hoa_tokens}
use Rattle.ltl_spec.specs.Hoa.HoaReading.{HoaDocument, IsDocumentOf, MarkedAutomaton, document_tokens, stated_form}
use Rattle.ltl_spec.specs.Claims.ClaimProgram.{Program}
use Rattle.ltl_spec.specs.Claims.ClaimMeaning.{ClaimAccepts}

-- the text is a document that describes this automaton, whatever its size
pub record IsHoaOf (text : List ℕ) (A : MarkedAutomaton) : Type 0 where
  pub document : HoaDocument
  pub spelled : hoa_tokens text ≡ document_tokens document
  pub describes : IsDocumentOf stated_form A document

-- the text is that of an automaton which accepts exactly the words that the claim accepts
abbrev pub KeepsWords : List ℕ → Program → Type 0
KeepsWords text P = (A : MarkedAutomaton) × IsHoaOf text A × ((w : Lasso) → 0 < length w.cycle → MarkedAccepts A w ↔ ClaimAccepts P w)

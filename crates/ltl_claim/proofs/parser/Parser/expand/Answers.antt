use Rattle.std.proofs.Common.{◌≡◌, ◌∙◌, ap, sym, refl, subst, Bool, Option, Some}
use Rattle.std.specs.Prelude.{Ok}
use Rattle.std.specs.Option.{option_eq}
use Rattle.ltl_spec.specs.Semantics.Word.{Name}
use Rattle.ltl_spec.specs.Claims.ClaimMachine as machine
use Rattle.ltl_claim.specs.contracts.token.TokenKindPartialEq.TheImpl.{eq-value}
use Rattle.ltl_claim.specs.declared.symbol.Symbol.{Symbol}
use Rattle.ltl_claim.specs.declared.symbol.Symbol.TheVariants as code
use Rattle.ltl_claim.specs.declared.token.TokenKind.{TokenKind}
use Rattle.ltl_claim.specs.declared.token.TokenKind.TheVariants as kind
use Rattle.ltl_claim.specs.ParserView.{ParserView, Pushes, only}
use Rattle.ltl_claim.specs.SymbolView.{alone_of, done, symbol_of}
use Rattle.ltl_claim.specs.TokenView.{tell_of, token_of}
use Rattle.ltl_claim.proofs.ParserLaws as laws
use Rattle.ltl_claim.proofs.parser.Parser.expand.Goals as goal

module _ (E : Type 0) (labels : Bool) (w : Name) (v : ParserView) where
  abbrev Fits : machine.Symbol → Option TokenKind → TokenKind → Type 0
  Fits s wanted k = Pushes {E = E} (only (tell_of k) (machine.behind labels s (token_of w k))) v (Ok (option_eq eq-value.it wanted (Some k))) v

  never_fits : (k : TokenKind) → Fits machine.InNever (Some kind.Never) k
  never_fits kind.Never = (refl, refl, refl)
  never_fits k = (refl, refl)

  assert_fits : (k : TokenKind) → Fits machine.InAssert (Some kind.Assert) k
  assert_fits kind.Assert = (refl, refl, refl)
  assert_fits k = (refl, refl)

  fi_fits : (k : TokenKind) → Fits machine.InFi (Some kind.Fi) k
  fi_fits kind.Fi = (refl, refl, refl)
  fi_fits k = (refl, refl)

  od_fits : (k : TokenKind) → Fits machine.InOd (Some kind.Od) k
  od_fits kind.Od = (refl, refl, refl)
  od_fits k = (refl, refl)

  open_brace_fits : (k : TokenKind) → Fits machine.InOpenBrace (Some kind.OpenBrace) k
  open_brace_fits kind.OpenBrace = (refl, refl, refl)
  open_brace_fits k = (refl, refl)

  close_brace_fits : (k : TokenKind) → Fits machine.InCloseBrace (Some kind.CloseBrace) k
  close_brace_fits kind.CloseBrace = (refl, refl, refl)
  close_brace_fits k = (refl, refl)

  open_bracket_fits : (k : TokenKind) → Fits machine.InOpenBracket (Some kind.OpenBracket) k
  open_bracket_fits kind.OpenBracket = (refl, refl, refl)
  open_bracket_fits k = (refl, refl)

  close_bracket_fits : (k : TokenKind) → Fits machine.InCloseBracket (Some kind.CloseBracket) k
  close_bracket_fits kind.CloseBracket = (refl, refl, refl)
  close_bracket_fits k = (refl, refl)

  colon_fits : (k : TokenKind) → Fits machine.InColon (Some kind.Colon) k
  colon_fits kind.Colon = (refl, refl, refl)
  colon_fits k = (refl, refl)

  alone_fits : (s : Symbol) (k : TokenKind) → (s ≡ code.Title → ⊥) → (s ≡ code.AnItem → ⊥) → (s ≡ code.AStatement → ⊥) → (s ≡ code.MayMore → ⊥) → (s ≡ code.MayAnother → ⊥) → (s ≡ code.Options → ⊥) → (s ≡ code.MayOptions → ⊥) → (s ≡ code.AFirst → ⊥) → ((b : Bool) → s ≡ code.JumpTo b → ⊥) → (s ≡ code.AGuard → ⊥) → (s ≡ code.AnOperand → ⊥) → (s ≡ code.MayConjunct → ⊥) → (s ≡ code.MayDisjunct → ⊥) → (s ≡ code.Separators → ⊥) → (s ≡ code.MaySeparators → ⊥)
      → Fits (symbol_of s) (alone_of s) k
  alone_fits code.Title k n1 n2 n3 n4 n5 n6 n7 n8 n9 n10 n11 n12 n13 n14 n15 = absurd (n1 refl)
  alone_fits code.AnItem k n1 n2 n3 n4 n5 n6 n7 n8 n9 n10 n11 n12 n13 n14 n15 = absurd (n2 refl)
  alone_fits code.AStatement k n1 n2 n3 n4 n5 n6 n7 n8 n9 n10 n11 n12 n13 n14 n15 = absurd (n3 refl)
  alone_fits code.MayMore k n1 n2 n3 n4 n5 n6 n7 n8 n9 n10 n11 n12 n13 n14 n15 = absurd (n4 refl)
  alone_fits code.MayAnother k n1 n2 n3 n4 n5 n6 n7 n8 n9 n10 n11 n12 n13 n14 n15 = absurd (n5 refl)
  alone_fits code.Options k n1 n2 n3 n4 n5 n6 n7 n8 n9 n10 n11 n12 n13 n14 n15 = absurd (n6 refl)
  alone_fits code.MayOptions k n1 n2 n3 n4 n5 n6 n7 n8 n9 n10 n11 n12 n13 n14 n15 = absurd (n7 refl)
  alone_fits code.AFirst k n1 n2 n3 n4 n5 n6 n7 n8 n9 n10 n11 n12 n13 n14 n15 = absurd (n8 refl)
  alone_fits (code.JumpTo b) k n1 n2 n3 n4 n5 n6 n7 n8 n9 n10 n11 n12 n13 n14 n15 = absurd (n9 b refl)
  alone_fits code.AGuard k n1 n2 n3 n4 n5 n6 n7 n8 n9 n10 n11 n12 n13 n14 n15 = absurd (n10 refl)
  alone_fits code.AnOperand k n1 n2 n3 n4 n5 n6 n7 n8 n9 n10 n11 n12 n13 n14 n15 = absurd (n11 refl)
  alone_fits code.MayConjunct k n1 n2 n3 n4 n5 n6 n7 n8 n9 n10 n11 n12 n13 n14 n15 = absurd (n12 refl)
  alone_fits code.MayDisjunct k n1 n2 n3 n4 n5 n6 n7 n8 n9 n10 n11 n12 n13 n14 n15 = absurd (n13 refl)
  alone_fits code.Separators k n1 n2 n3 n4 n5 n6 n7 n8 n9 n10 n11 n12 n13 n14 n15 = absurd (n14 refl)
  alone_fits code.MaySeparators k n1 n2 n3 n4 n5 n6 n7 n8 n9 n10 n11 n12 n13 n14 n15 = absurd (n15 refl)
  alone_fits code.InNever k n1 n2 n3 n4 n5 n6 n7 n8 n9 n10 n11 n12 n13 n14 n15 = never_fits k
  alone_fits code.InAssert k n1 n2 n3 n4 n5 n6 n7 n8 n9 n10 n11 n12 n13 n14 n15 = assert_fits k
  alone_fits code.InFi k n1 n2 n3 n4 n5 n6 n7 n8 n9 n10 n11 n12 n13 n14 n15 = fi_fits k
  alone_fits code.InOd k n1 n2 n3 n4 n5 n6 n7 n8 n9 n10 n11 n12 n13 n14 n15 = od_fits k
  alone_fits code.InOpenBrace k n1 n2 n3 n4 n5 n6 n7 n8 n9 n10 n11 n12 n13 n14 n15 = open_brace_fits k
  alone_fits code.InCloseBrace k n1 n2 n3 n4 n5 n6 n7 n8 n9 n10 n11 n12 n13 n14 n15 = close_brace_fits k
  alone_fits code.InOpenBracket k n1 n2 n3 n4 n5 n6 n7 n8 n9 n10 n11 n12 n13 n14 n15 = open_bracket_fits k
  alone_fits code.InCloseBracket k n1 n2 n3 n4 n5 n6 n7 n8 n9 n10 n11 n12 n13 n14 n15 = close_bracket_fits k
  alone_fits code.InColon k n1 n2 n3 n4 n5 n6 n7 n8 n9 n10 n11 n12 n13 n14 n15 = colon_fits k
  alone_fits (code.Now a) k n1 n2 n3 n4 n5 n6 n7 n8 n9 n10 n11 n12 n13 n14 n15 = (laws.now_other labels w (done a) k, refl)

pub returns-in_default : goal.returns-in_default
returns-in_default g c =
    subst (λ r. Pushes {E = Unit {0}} (only (tell_of c.args.token.kind) (machine.behind c.args.labels (symbol_of c.args.symbol) (token_of c.args.token.word.now c.args.token.kind))) c.args.self.now (Ok r) c.args.self.now)
    (sym (c.eq.ensures ∙ ap (λ a. option_eq eq-value.it a (Some c.args.token.kind)) c.alone.ensures))
    (alone_fits (Unit {0}) c.args.labels c.args.token.word.now c.args.self.now c.args.symbol c.args.token.kind c.in_default.not-Title c.in_default.not-AnItem c.in_default.not-AStatement c.in_default.not-MayMore c.in_default.not-MayAnother c.in_default.not-Options c.in_default.not-MayOptions c.in_default.not-AFirst c.in_default.not-JumpTo c.in_default.not-AGuard c.in_default.not-AnOperand c.in_default.not-MayConjunct c.in_default.not-MayDisjunct c.in_default.not-Separators c.in_default.not-MaySeparators)

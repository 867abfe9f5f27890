use Rattle.std.proofs.Common.{inl, inr, length, refl, subst}
use Rattle.ltl_alt.specs.Tests.{HasOperands, step_of}
use Rattle.ltl_alt.proofs.step_lists.StepLists.pairs_of.Goals as goal

pub pairs-requires : goal.pairs-requires
pairs-requires g c = subst (λ s. HasOperands (length c.args.self.now.lists.items) (step_of s)) c.in-Both.is c.requires.operands c.in-Both.i (inl refl)

pub pairs-requires-in-Both : goal.pairs-requires-in-Both
pairs-requires-in-Both g c = subst (λ s. HasOperands (length c.args.self.now.lists.items) (step_of s)) c.in-Both.is c.requires.operands c.in-Both.j (inr refl)

pub pairs-requires-in-Either : goal.pairs-requires-in-Either
pairs-requires-in-Either g c = subst (λ s. HasOperands (length c.args.self.now.lists.items) (step_of s)) c.in-Either.is c.requires.operands c.in-Either.i (inl refl)

pub pairs-requires-in-Either-2 : goal.pairs-requires-in-Either-2
pairs-requires-in-Either-2 g c = subst (λ s. HasOperands (length c.args.self.now.lists.items) (step_of s)) c.in-Either.is c.requires.operands c.in-Either.j (inr refl)

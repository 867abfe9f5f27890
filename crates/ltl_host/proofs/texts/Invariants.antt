use Rattle.std.proofs.Common.{◌≡◌, map, string_bytes}
use Rattle.std.specs.Prelude.{take}
use Rattle.ltl_host.proofs.texts.Given as goal

abbrev pub invariant-loop-word : goal.invariant-loop-word
invariant-loop-word g l = map (λ t. t.now) l.texts.items ≡ map string_bytes (take l.word-index l.words)

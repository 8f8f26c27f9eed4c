use Rattle.std.proofs.Common.{rules, Option, Some, None, ◌≡◌, refl, ◌∙◌}
use borrow.Author.Tests.{tests}
use Rattle.std.specs.Option.{option_map}
use Rattle.std.specs.Str.{bytes_eq}
use Rattle.std.proofs.lemmas.Iterator.{YieldsList-from_slice}
use Rattle.std.proofs.lemmas.Iterator.Consumers.{YieldsList-from_copied}
use Rattle.std.proofs.lemmas.Iterator.Search.{find_from_yields_List}
use Rattle.script.specs.declared.verb.Verb.{Verb}
use Rattle.script.specs.Verbs.{word_for, verbs}
use Rattle.script.proofs.verb.Verb.parse.Goals as goal

same : (o : Option Verb) → o ≡ option_map (λ x. x) o
same None = refl
same (Some v) = refl

pub returns : goal.returns
returns c =
    same _ ∙ find_from_yields_List (λ v. bytes_eq c.args.word.now (word_for v)) _ _ c.find.result c.find.ensures.ran (YieldsList-from_copied {s = c.copied.result} (YieldsList-from_slice verbs cc)) (λ x b q k. search (rules, tests))

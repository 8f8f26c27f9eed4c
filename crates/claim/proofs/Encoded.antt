-- What holds of every expression that the rules accept.
use Rattle.std.proofs.Common.{◌≡◌, ℕ, ◌^◌, ◌<◌, Bool, true, List, [], ◌++◌, length, Ok, subst}
use Rattle.dwarf.specs.Bytes.{bytes_of, size_of}
use Rattle.dwarf.specs.References.{shown, Wide}
use Rattle.dwarf.specs.WellFormed.{WellFormed}
use Rattle.rules.specs.Scope.{Scope}
use Rattle.rules.specs.Encode.{encode}
use Rattle.rules.specs.Readable.{readable}
use Rattle.rules.specs.Branches.{marks, inners, Leads, Nested}
use Rattle.rules.proofs.Sizes.{sizes_hold}
use Rattle.rules.proofs.Widths.{references-wide}
use Rattle.rules.proofs.Branches.{branches_lead}
use Rattle.claim.specs.Calls.{Written}
use Rattle.claim.specs.Fits.{Fits}
use Rattle.claim.specs.Claim.{RulesTold}
use Rattle.claim.proofs.Frames.{frame_none}
use Rattle.claim.proofs.Formed.{Low, encoded_well_formed}

pub record Encoded (w : Written) : Type 0 where
  pub rules : RulesTold w
  pub wide : Wide w.tokens
  pub leads : (big : Bool) (value : ℕ → ℕ) (before after : List ℕ)
      → Leads big (before ++ (bytes_of big (shown value (length before) w.tokens) ++ after)) (length before) w.tree w.tokens
      × Nested big (before ++ (bytes_of big (shown value (length before) w.tokens) ++ after)) (length before) w.tree (inners (marks 0 w.tokens))
  pub formed : readable w.tree ≡ true → Fits w.tree → Low w.scope → size_of w.tokens < 2 ^ 64 → WellFormed w.encoding [] w.tokens

pub accepted : (w : Written) → encode w.encoding w.scope w.tree ≡ Ok w.tokens → Encoded w
accepted w h =
    record {
      rules = record {
        encoded = h;
        sized = (sizes_hold w.encoding w.scope w.tree w.tokens h).0;
        framed = λ f. frame_none w.encoding w.tree w.tokens (subst (λ (z : Scope). encode w.encoding z w.tree ≡ Ok w.tokens) f h);
      };
      wide = references-wide w.encoding w.scope w.tree w.tokens h;
      leads = λ big value before after. (branches_lead w.encoding w.scope w.tree w.tokens h).1 big value before after;
      formed = λ r f low l. encoded_well_formed w.encoding w.scope w.tree w.tokens h r f low l;
    }

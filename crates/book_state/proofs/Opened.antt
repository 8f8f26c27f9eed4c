-- A new book, and a draft that is opened.
use Rattle.std.proofs.Common.{◌≡◌, ℕ, ◌<◌, ◌≤◌, true, false, List, replicate, sym, refl, ap, ◌∙◌, subst, ⊎_elim, arith}
use lib.ListN.{length-replicate}
use Rattle.std.proofs.lemmas.List.{get_or-replicate, get_or_past}
use Rattle.std.proofs.lemmas.Bool.{cases_lt}
use Rattle.op.specs.declared.operation.Operation.{Operation}
use Rattle.book_state.specs.declared.expression.Expression.{Expression}
use Rattle.book_state.specs.State.{State, fresh, expression_of, no_expression}
use Rattle.book_state.specs.Calls.{opened}
use Rattle.book_state.proofs.Kept.{Kept}

none_there : (k : ℕ) → expression_of (replicate 1024 no_expression) k ≡ no_expression
none_there k = ⊎_elim
    (λ l. get_or-replicate 1024 k no_expression no_expression l)
    (λ l. get_or_past (replicate 1024 no_expression) k no_expression (simp length-replicate l))
    (cases_lt k 1024)

pub keep-fresh : (ops : List Operation) (bs : List ℕ) → Kept (fresh ops bs)
keep-fresh ops bs = record {
  whole = record {
    counted = record {
      ops_within = omega arith;
      bytes_within = omega arith;
      since = omega arith;
      bytes_since = omega arith;
      sealed_within = omega arith;
      table = length-replicate 1024 no_expression;
      room = λ e. omega arith;
      idle = λ e. (refl, refl);
      light = λ k. subst (λ (e : Expression). e.weight ≤ 1155071) (sym (none_there k)) (omega arith);
      shallow = λ k. subst (λ (e : Expression). e.depth ≤ 16) (sym (none_there k)) (omega arith);
    };
    ends = λ k l. absurd (omega arith);
    closed = λ k i l h. absurd (omega arith);
    drafted = λ p l h. absurd (omega arith);
    named = λ p l. absurd (omega arith);
    flagged = λ p m l e. absurd (omega arith);
    used = λ m h. let e = ap (λ (x : Expression). x.nested) (none_there m) in absurd (cc);
    once = λ p q m l h e f. omega arith;
    deep = λ k l. absurd (omega arith);
    weighed = λ k l. absurd (omega arith);
    low = omega arith;
    held = refl;
    total = refl;
  };
  ordered = λ j k l h. absurd (omega arith);
}

module _ (s : State) (o : s.drafting ≡ false) (room : s.sealed_count < 1024) (w : Kept s) where
  at : ℕ → ℕ → State
  at a b = record { operations = s.operations; bytes = s.bytes; expressions = s.expressions; op_count = s.op_count; byte_count = s.byte_count; sealed_count = s.sealed_count; start = a; byte_start = b; drafting = true }

  same : Kept (at s.start s.byte_start)
  unfolding at
  same = let c = w.whole.counted in record {
    whole = record {
      counted = record {
        ops_within = c.ops_within;
        bytes_within = c.bytes_within;
        since = c.since;
        bytes_since = c.bytes_since;
        sealed_within = c.sealed_within;
        table = c.table;
        room = λ e. room;
        idle = λ e. absurd (cc);
        light = c.light;
        shallow = c.shallow;
      };
      ends = w.whole.ends;
      closed = w.whole.closed;
      drafted = w.whole.drafted;
      named = w.whole.named;
      flagged = w.whole.flagged;
      used = w.whole.used;
      once = w.whole.once;
      deep = w.whole.deep;
      weighed = w.whole.weighed;
      low = w.whole.low;
      held = w.whole.held;
      total = w.whole.total;
    };
    ordered = w.ordered;
  }

  pub keep_opened : Kept (opened s)
  unfolding at
  keep_opened = let e = w.whole.counted.idle o in subst Kept (ap (λ n. at n s.byte_start) e.0 ∙ ap (at s.op_count) e.1) same

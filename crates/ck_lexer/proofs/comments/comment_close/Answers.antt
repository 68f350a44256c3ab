use Rattle.std.proofs.Common.{◌≡◌, ℕ, ◌+◌, ◌<◌, ◌≤◌, false, ◌==◌, drop, get_or, length-drop, ⊎_elim, ap, ◌∙◌, arith}
use Rattle.std.proofs.lemmas.List.Sums.{prefix_len-le-length}
use Rattle.std.proofs.str.Laws.{order}
use Rattle.ck_lexer.specs.Runs.{is_in}
use Rattle.ck_lexer.specs.declared.runs.Class.TheVariants.{NotStar}
use Rattle.ck_lexer.proofs.CommentLemmas.{closes_at-before, closes_at-no_slash, closes_at-past, closes_at-star}
use Rattle.ck_lexer.proofs.Tests.{eqb-same, no-test}
use Rattle.ck_lexer.proofs.comments.comment_close.Goals as goal

pub overflow_add-star : goal.overflow_add-star
overflow_add-star c =
    let rest = c.args.rest.now in
    omega (
      arith,
      c.class_run.ensures,
      prefix_len-le-length (is_in NotStar)
          (drop c.stars.at rest),
      length-drop c.stars.at rest,
    )

pub overflow_add-star-in-stars : goal.overflow_add-star-in-stars
overflow_add-star-in-stars c =
    let rest = c.args.rest.now in
    omega (
      arith,
      c.class_run.ensures,
      prefix_len-le-length (is_in NotStar)
          (drop c.stars.at rest),
      length-drop c.stars.at rest,
    )

pub returns-then-star-rest : goal.returns-then-star-rest
returns-then-star-rest c = λ k two.
    let rest = c.args.rest.now in
    let star : ℕ = c.stars.at + c.class_run.result in
    ⊎_elim
    (λ (early : k < star). closes_at-before rest c.stars.at c.class_run.result k c.class_run.ensures
    c.stars.invariant.none two early)
    (λ (late : star ≤ k). closes_at-past rest k (omega arith))
    (order k star)

pub returns-then-rest-star-eq47 : goal.returns-then-rest-star-eq47
returns-then-rest-star-eq47 c =
    let rest = c.args.rest.now in (
      omega arith,
      closes_at-star rest c.stars.at c.class_run.result c.class_run.ensures (omega arith) c.if-rest-star-eq47.true,
      λ j two less. closes_at-before rest c.stars.at c.class_run.result j c.class_run.ensures c.stars.invariant.none
          two less,
    )

pub stars-preserved : goal.stars-preserved
stars-preserved c =
    let rest = c.args.rest.now in
    let star : ℕ = c.stars.at + c.class_run.result in
    let other : (get_or rest (star + 1) 0 == 47) ≡ false = no-test _
    (λ same. c.if-rest-star-eq47.false (eqb-same _ 47 same)) in
    record {
      begun = omega arith;
      none = λ j two less. ⊎_elim
          (λ (early : j < star). closes_at-before rest c.stars.at c.class_run.result j c.class_run.ensures
          c.stars.invariant.none two early)
          (λ (late : star ≤ j). let e : j ≡ star = omega arith in
          closes_at-no_slash rest j (ap (λ i. get_or rest (i + 1) 0 == 47) e ∙ other))
          (order j star);
    }

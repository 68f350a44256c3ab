-- What is known, as it grows.
use Rattle.std.proofs.Common.{refl, ◌∙◌, inl, inr, arith}
use Rattle.ck_reaching.specs.declared.known.Known.{Known}
use Rattle.ck_reaching.specs.Known.{Gains}

pub Gains-none : (k : Known) → Gains k k
Gains-none k = record {
  kept = λ c f h. h;
  listed = λ c f h. inl h;
  stays = λ c l. l;
  left = omega arith;
  sizes = record { count = refl; sets = λ c. refl };
  size = refl;
}

pub Gains-then : (old mid new : Known) → Gains old mid → Gains mid new → Gains old new
Gains-then old mid new first then = record {
  kept = λ c f h. then.kept c f (first.kept c f h);
  listed = λ c f h. elim (then.listed c f h) [
    | inl m ↦ elim (first.listed c f m) [ inl o ↦ inl o | inr l ↦ inr (then.stays c l) ]
    | inr l ↦ inr l
  ];
  stays = λ c l. then.stays c (first.stays c l);
  left = omega (arith, first.left, then.left);
  sizes = record {
    count = then.sizes.count ∙ first.sizes.count;
    sets = λ c. then.sizes.sets c ∙ first.sizes.sets c;
  };
  size = then.size ∙ first.size;
}

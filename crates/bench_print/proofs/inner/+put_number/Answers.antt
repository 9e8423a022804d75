use native.Mathlib.Omega.{arith}
use Rattle.bench_print.proofs.Numbers.{tenth_less, one_fits, tenth_fits, last_fits, one_put, more_put}
use Rattle.bench_print.proofs.inner.+put_number.Goals as goal

pub bounds-out-at : goal.bounds-out-at
bounds-out-at t c = one_fits _ _ _ c.requires c.if-n-lt10.true

pub returns-then-n-lt10 : goal.returns-then-n-lt10
returns-then-n-lt10 t c = one_put _ _ _ c.if-n-lt10.true

pub put_number-next-requires : goal.put_number-next-requires
put_number-next-requires t c = (tenth_less _ c.if-n-lt10.false c.decreases, tenth_fits _ _ _ c.requires c.if-n-lt10.false)

pub bounds-out-next : goal.bounds-out-next
bounds-out-next t c = last_fits _ _ _ _ _ c.requires c.if-n-lt10.false c.put_number-next.ensures

pub overflow_add-result-2 : goal.overflow_add-result-2
overflow_add-result-2 t c = let room = last_fits _ _ _ _ _ c.requires c.if-n-lt10.false c.put_number-next.ensures in omega arith

pub returns : goal.returns
returns t c = more_put _ _ c.put_number-next.result _ _ c.if-n-lt10.false c.put_number-next.ensures

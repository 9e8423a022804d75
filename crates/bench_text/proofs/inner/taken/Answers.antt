use native.Mathlib.Omega.{arith}
use lib.ListN.{length-take}
use Rattle.law.proofs.Promise.{accepts}
use Rattle.bench_text.specs.Reading.{reading}
use Rattle.bench_text.proofs.Passes.{short, its_tests, enough_room, worked}
use Rattle.bench_text.proofs.inner.taken.Goals as goal

pub overflow_mul-m : goal.overflow_mul-m
overflow_mul-m c = let room = enough_room _ _ _ c.in_ok-fits.ensures in omega arith

pub slice_bounds-scanned-end : goal.slice_bounds-scanned-end
slice_bounds-scanned-end c = enough_room _ _ _ c.in_ok-fits.ensures

pub slice_bounds-scanned-end-2 : goal.slice_bounds-scanned-end-2
slice_bounds-scanned-end-2 c =
    let room = enough_room _ _ _ c.in_ok-fits.ensures in
    simp length-take (omega arith)

pub scanned-requires : goal.scanned-requires
scanned-requires c = short _ _ c.requires

pub returns : goal.returns
returns c =
    let room = enough_room _ _ _ c.in_ok-fits.ensures in
    accepts reading _ (its_tests _ _ c.requires _ _ c.in_ok-fits.ensures) _ (worked _ _ c.requires _ _ _ room c.scanned.ensures)

use Rattle.std.proofs.Common.{◌≡◌, ◌<◌, ◌≤◌, ◌+◌, ◌*◌, ◌%◌, ◌^◌, ℕ, List, drop, get_or, Some, sym, ap, ◌∙◌, arith}
use Rattle.std.proofs.lemmas.List.{take_rest}
use Rattle.av1_payload.proofs.Adding.{begun, more, scale_fits, value_fits, cut_off, whole, too_great, too_many}
use Rattle.av1_payload.proofs.leb.split_length.Goals as goal

pub loop-place-init : goal.loop-place-init
loop-place-init c = begun c.args.bytes.now

pub returns-in_err-byte : goal.returns-in_err-byte
returns-in_err-byte c =
    rw c.from_residual.ensures (cut_off c.args.bytes.now _ _ _ c.loop-place.invariant c.in_err-byte.ensures.lookup.3)

pub overflow_mul-value : goal.overflow_mul-value
overflow_mul-value c =
    let small : c.from.result < 128 = omega arith in
    let few : c.loop-place.place ≤ 8 = omega (arith, c.loop-place-test.true) in
    let scale = scale_fits c.args.bytes.now c.loop-place.place c.loop-place.value c.loop-place.scale c.loop-place.invariant few in
    let sum = value_fits c.args.bytes.now c.loop-place.place c.loop-place.value c.loop-place.scale c.from.result c.loop-place.invariant few small in
    omega (arith, scale, sum)

pub overflow_add-value : goal.overflow_add-value
overflow_add-value c =
    let small : c.from.result < 128 = omega arith in
    let few : c.loop-place.place ≤ 8 = omega (arith, c.loop-place-test.true) in
    let scale = scale_fits c.args.bytes.now c.loop-place.place c.loop-place.value c.loop-place.scale c.loop-place.invariant few in
    let sum = value_fits c.args.bytes.now c.loop-place.place c.loop-place.value c.loop-place.scale c.from.result c.loop-place.invariant few small in
    omega (arith, scale, sum)

pub returns-then-value-lt-BOUND : goal.returns-then-value-lt-BOUND
returns-then-value-lt-BOUND c =
    let bytes = c.args.bytes.now in
    let place = c.loop-place.place in
    let here = c.in_ok-byte.ensures.lookup.3 in
    let at : c.in_ok-byte.field-0.now ≡ get_or bytes place 0 = here.1 0 in
    let group : c.from.result ≡ get_or bytes place 0 % 128 = c.from.ensures ∙ ap (λ (x : ℕ). x % 128) at in
    let low : get_or bytes place 0 < 128 = omega (arith, at) in
    let below : c.loop-place.value + c.loop-place.scale * (get_or bytes place 0 % 128) < 2 ^ 32 = rw (← group) c.if-value-lt-BOUND.true in
    whole bytes place c.loop-place.value c.loop-place.scale c.loop-place.invariant c.loop-place-test.true here.0 low below
    ∙ ap (λ (x : ℕ). Some (c.loop-place.value + c.loop-place.scale * x, drop (place + 1) bytes)) (sym group)
    ∙ ap (λ (x : List ℕ). Some (c.loop-place.value + c.loop-place.scale * c.from.result, x)) (sym (take_rest bytes (place + 1)))

pub returns-else-value-lt-BOUND : goal.returns-else-value-lt-BOUND
returns-else-value-lt-BOUND c =
    let bytes = c.args.bytes.now in
    let place = c.loop-place.place in
    let here = c.in_ok-byte.ensures.lookup.3 in
    let at : c.in_ok-byte.field-0.now ≡ get_or bytes place 0 = here.1 0 in
    let group : c.from.result ≡ get_or bytes place 0 % 128 = c.from.ensures ∙ ap (λ (x : ℕ). x % 128) at in
    let low : get_or bytes place 0 < 128 = omega (arith, at) in
    let great : 2 ^ 32 ≤ c.loop-place.value + c.loop-place.scale * (get_or bytes place 0 % 128) = rw (← group) c.if-value-lt-BOUND.false in
    too_great bytes place c.loop-place.value c.loop-place.scale c.loop-place.invariant c.loop-place-test.true here.0 low great

pub overflow_mul-scale : goal.overflow_mul-scale
overflow_mul-scale c =
    let few : c.loop-place.place ≤ 8 = omega (arith, c.loop-place-test.true) in
    let fits = scale_fits c.args.bytes.now c.loop-place.place c.loop-place.value c.loop-place.scale c.loop-place.invariant few in
    omega (arith, fits)

pub loop-place-preserved : goal.loop-place-preserved
loop-place-preserved c =
    let bytes = c.args.bytes.now in
    let place = c.loop-place.place in
    let here = c.in_ok-byte.ensures.lookup.3 in
    let at : c.in_ok-byte.field-0.now ≡ get_or bytes place 0 = here.1 0 in
    let group : c.from.result ≡ get_or bytes place 0 % 128 = c.from.ensures ∙ ap (λ (x : ℕ). x % 128) at in
    let high : 128 ≤ get_or bytes place 0 = omega (arith, at) in
    rw group (more bytes place c.loop-place.value c.loop-place.scale c.loop-place.invariant here.0 high)

pub returns : goal.returns
returns c =
    too_many c.args.bytes.now c.loop-place.place c.loop-place.value c.loop-place.scale c.loop-place.invariant c.loop-place-test.false

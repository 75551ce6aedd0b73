use Rattle.std.proofs.Common.{◌≡◌, ◌==◌, ℕ, List, Option, Some, None, rules, tests, sym, ap, ◌∙◌}
use Rattle.std.specs.Option.{option_map, option_copied}
use Rattle.std.specs.List.{find}
use Rattle.std.proofs.lemmas.Iterator.Consumers.{YieldsList-from_first}
use Rattle.std.proofs.lemmas.Iterator.Search.{find_from_yields_List}
use Rattle.rtp_extension.specs.declared.element.Element.{Element}
use Rattle.rtp_extension.specs.Forms.{PlainElement}
use Rattle.rtp_extension.specs.Seen.{plain}
use Rattle.rtp_extension.specs.Reading.{elements_of, value_of}
use Rattle.rtp_extension.proofs.block.find.Goals as goal

-- an element that was found, mapped to its value
given_value : (id : ℕ) (all : List PlainElement) (r o : Option Element) → r ≡ o → option_map plain r ≡ find (λ (e : PlainElement). e.id == id) all
    → option_map (λ (e : PlainElement). e.value) (option_map plain o) ≡ value_of id all
given_value id all r o same found =
    ap (λ (x : Option Element). option_map (λ (e : PlainElement). e.value) (option_map plain x)) (sym same) ∙ ap (option_map (λ (e : PlainElement). e.value)) found

pub returns-in_err-element : goal.returns-in_err-element
returns-in_err-element c =
    ap option_copied c.from_residual.ensures
    ∙ given_value c.args.id (elements_of c.args.profile c.args.block.now) c.find.result None c.in_err-element.was
    (find_from_yields_List (λ (e : PlainElement). e.id == c.args.id) _ _ c.find.result c.find.ensures.ran
    (YieldsList-from_first plain (λ left. left) (elements_of c.args.profile c.args.block.now) c.elements.ensures.value)
    (λ x b q k. search (rules, tests)))

pub returns : goal.returns
returns c =
    given_value c.args.id (elements_of c.args.profile c.args.block.now) c.find.result (Some c.in_ok-element.element) c.in_ok-element.was
    (find_from_yields_List (λ (e : PlainElement). e.id == c.args.id) _ _ c.find.result c.find.ensures.ran
    (YieldsList-from_first plain (λ left. left) (elements_of c.args.profile c.args.block.now) c.elements.ensures.value)
    (λ x b q k. search (rules, tests)))

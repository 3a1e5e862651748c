-- Where a unit stands.
use Rattle.std.proofs.Common.{◌≡◌, ℕ, ◌+◌, ◌-◌, ◌*◌, ◌%◌, ◌<◌, ◌≤◌, Bool, true, false, cond, eqb, ltb, refl, ap, inl, inr, arith}
use Rattle.std.proofs.lemmas.Bool.{cases_lt, lt-ltb, le-ltb, eqb-true, eqb-false}
use Rattle.aiger_reader.specs.declared.headers.Spelling.{Spelling}
use Rattle.aiger_reader.specs.declared.headers.Spelling.TheVariants.{Ascii, Binary}
use Rattle.aiger_reader.specs.declared.headers.Header.{Header}
use Rattle.aiger_reader.specs.declared.sections.Section.{Section}
use Rattle.aiger_reader.specs.declared.sections.Section.TheVariants.{Inputs, Latches, Outputs, Ands, FirstDeltas, SecondDeltas, Behind}
use Rattle.aiger_reader.specs.Sections.{input_lines, and_units, latches_from, outputs_from, ands_from, sections_end, and_section, section_of}

-- where the sections of each spelling begin and end
pub data Shape (header : Header) : Type 0 where
  ascii : header.spelling ≡ Ascii → latches_from header ≡ header.inputs → sections_end header ≡ ands_from header + header.ands → Shape header
  binary : header.spelling ≡ Binary → latches_from header ≡ 0 → sections_end header ≡ ands_from header + 2 * header.ands → Shape header

shape_by : (header : Header) (spelling : Spelling) → header.spelling ≡ spelling → Shape header
shape_by header Ascii is = ascii is (ap (λ s. input_lines s header.inputs) is) (ap (λ s. ands_from header + and_units s header.ands) is)
shape_by header Binary is = binary is (ap (λ s. input_lines s header.inputs) is) (ap (λ s. ands_from header + and_units s header.ands) is)

pub shape : (header : Header) → Shape header
shape header = shape_by header header.spelling refl

-- the section in which a unit stands after so many units
pub data Stands (header : Header) (place : ℕ) : Section → Type 0 where
  in_inputs : place < latches_from header → Stands header place Inputs
  in_latches : latches_from header ≤ place → place < outputs_from header → Stands header place Latches
  in_outputs : outputs_from header ≤ place → place < ands_from header → Stands header place Outputs
  in_ands : header.spelling ≡ Ascii → ands_from header ≤ place → place < sections_end header → Stands header place Ands
  in_first : header.spelling ≡ Binary → ands_from header ≤ place → place < sections_end header → (place - ands_from header) % 2 ≡ 0 → Stands header place FirstDeltas
  in_second : header.spelling ≡ Binary → ands_from header ≤ place → place < sections_end header → (place - ands_from header) % 2 ≡ 1 → Stands header place SecondDeltas
  behind : sections_end header ≤ place → Stands header place Behind

delta_stands : (header : Header) (place : ℕ) (even : Bool) → eqb ((place - ands_from header) % 2) 0 ≡ even → header.spelling ≡ Binary → ands_from header ≤ place → place < sections_end header
    → Stands header place (cond even FirstDeltas SecondDeltas)
delta_stands header place true e is ge lt = in_first is ge lt (eqb-true _ _ e)
delta_stands header place false e is ge lt = let odd = eqb-false _ _ e in in_second is ge lt (omega (arith, odd))

and_stands : (header : Header) (place : ℕ) (spelling : Spelling) → header.spelling ≡ spelling → ands_from header ≤ place → place < sections_end header
    → Stands header place (and_section spelling (place - ands_from header))
and_stands header place Ascii is ge lt = in_ands is ge lt
and_stands header place Binary is ge lt = delta_stands header place (eqb ((place - ands_from header) % 2) 0) refl is ge lt

pub stands : (header : Header) (place : ℕ) → Stands header place (section_of header place)
stands header place =
    elim (cases_lt place (latches_from header)) [
      | inl lt ↦ let a : ltb place (latches_from header) ≡ true = lt-ltb _ _ lt in rw a (in_inputs lt)
      | inr ge ↦
          let a : ltb place (latches_from header) ≡ false = le-ltb _ _ ge in
          elim (cases_lt place (outputs_from header)) [
            | inl lt ↦ let b : ltb place (outputs_from header) ≡ true = lt-ltb _ _ lt in rw (a, b) (in_latches ge lt)
            | inr ge2 ↦
                let b : ltb place (outputs_from header) ≡ false = le-ltb _ _ ge2 in
                elim (cases_lt place (ands_from header)) [
                  | inl lt ↦ let d : ltb place (ands_from header) ≡ true = lt-ltb _ _ lt in rw (a, b, d) (in_outputs ge2 lt)
                  | inr ge3 ↦
                      let d : ltb place (ands_from header) ≡ false = le-ltb _ _ ge3 in
                      elim (cases_lt place (sections_end header)) [
                        | inl lt ↦
                            let e : ltb place (sections_end header) ≡ true = lt-ltb _ _ lt in
                            rw (a, b, d, e) (and_stands header place header.spelling refl ge3 lt)
                        | inr ge4 ↦ let e : ltb place (sections_end header) ≡ false = le-ltb _ _ ge4 in rw (a, b, d, e) (behind ge4)
                      ]
                ]
          ]
    ]

end_of : (header : Header) (place : ℕ) (section : Section) → Stands header place section → section ≡ Behind → sections_end header ≤ place
end_of header place Inputs (in_inputs lt) is = absurd cc
end_of header place Latches (in_latches ge lt) is = absurd cc
end_of header place Outputs (in_outputs ge lt) is = absurd cc
end_of header place Ands (in_ands s ge lt) is = absurd cc
end_of header place FirstDeltas (in_first s ge lt even) is = absurd cc
end_of header place SecondDeltas (in_second s ge lt odd) is = absurd cc
end_of header place Behind (behind ge) is = ge

pub behind_end : (header : Header) (place : ℕ) → section_of header place ≡ Behind → sections_end header ≤ place
behind_end header place is = end_of header place (section_of header place) (stands header place) is

use Rattle.std.proofs.Common.{rules, ◌≡◌, ◌≢◌, ℕ, ◌-◌, ◌<◌, ◌≤◌, inl, inr, refl, arith}
use Rattle.std.proofs.lemmas.Grind.{common_steps}
use Rattle.std.proofs.lemmas.Bool.{cases_lt}
use Rattle.dwarf_base.proofs.FixedNumbers.{fixed_one}
use Rattle.dwarf_base.proofs.Suffixes.{suffix_trans, suffix_whole}
use Rattle.dwarf_base.specs.declared.common.Encoding.{Encoding}
use Rattle.dwarf_meaning.specs.Opcodes.{Makes, Invalid, row_of, signed}
use Rattle.dwarf_meaning.specs.Operands.{Leb128, Offset}
use Rattle.dwarf_meaning.specs.Operations as meaning
use Rattle.dwarf_op.proofs.Rows.{block_row, made, row_within}
use Rattle.dwarf_op.proofs.decoding.read_row.Goals as goal
use Rattle.dwarf_op.proofs.decoding.read_row.Goals.{in-DW_OP_addr+in_ok-read_address-in-DW_OP_addr, in-DW_OP_deref, in-DW_OP_const1u+in_ok-read_u8-in-DW_OP_const1u, in-DW_OP_const1s+in_ok-read_i8-in-DW_OP_const1s, in-DW_OP_const2u+in_ok-read_u16-in-DW_OP_const2u, in-DW_OP_const2s+in_ok-read_i16-in-DW_OP_const2s, in-DW_OP_const4u+in_ok-read_u32-in-DW_OP_const4u, in-DW_OP_const4s+in_ok-read_i32-in-DW_OP_const4s, in-DW_OP_const8u+in_ok-read_u64-in-DW_OP_const8u, in-DW_OP_const8s+in_ok-read_i64-in-DW_OP_const8s, in-DW_OP_constu+in_ok-read_uleb128-in-DW_OP_constu, in-DW_OP_consts+in_ok-read_sleb128-in-DW_OP_consts, in-DW_OP_dup, in-DW_OP_drop, in-DW_OP_over, in-DW_OP_pick+in_ok-read_u8-in-DW_OP_pick, in-DW_OP_swap, in-DW_OP_rot, in-DW_OP_xderef, in-DW_OP_abs, in-DW_OP_and, in-DW_OP_div, in-DW_OP_minus, in-DW_OP_mod, in-DW_OP_mul, in-DW_OP_neg, in-DW_OP_not, in-DW_OP_or, in-DW_OP_plus, in-DW_OP_plus_uconst+in_ok-read_uleb128-in-DW_OP_plus_uconst, in-DW_OP_shl, in-DW_OP_shr, in-DW_OP_shra, in-DW_OP_xor, in-DW_OP_bra+in_ok-read_i16-in-DW_OP_bra, in-DW_OP_eq, in-DW_OP_ge, in-DW_OP_gt, in-DW_OP_le, in-DW_OP_lt, in-DW_OP_ne, in-DW_OP_skip+in_ok-read_i16-in-DW_OP_skip, in-48-to-79, in-80-to-111, in-112-to-143+in_ok-read_sleb128-in-112-to-143, in-DW_OP_regx+in_ok-register_number-in-DW_OP_regx, in-DW_OP_fbreg+in_ok-read_sleb128-in-DW_OP_fbreg, in-DW_OP_bregx+in_ok-register_number-in-DW_OP_bregx+in_ok-read_sleb128-in-DW_OP_bregx, in-DW_OP_piece+in_ok-piece_size-in-DW_OP_piece, in-DW_OP_deref_size+in_ok-read_u8-in-DW_OP_deref_size, in-DW_OP_xderef_size+in_ok-read_u8-in-DW_OP_xderef_size, in-DW_OP_nop, in-DW_OP_push_object_address, in-DW_OP_call2+in_ok-read_u16-in-DW_OP_call2, in-DW_OP_call4+in_ok-read_u32-in-DW_OP_call4, in-DW_OP_call_ref+in_ok-debug_info_offset-in-DW_OP_call_ref, in-DW_OP_call_frame_cfa, in-DW_OP_bit_piece+in_ok-read_uleb128-in-DW_OP_bit_piece+in_ok-read_uleb128-in-DW_OP_bit_piece-2, in-DW_OP_implicit_value+in_ok-long_block-in-DW_OP_implicit_value, in-DW_OP_stack_value, in-DW_OP_xderef_type+in_ok-read_u8-in-DW_OP_xderef_type+in_ok-base_type-in-DW_OP_xderef_type, in-DW_OP_WASM_location+in_ok-wasm_location-in-DW_OP_WASM_location, in-DW_OP_GNU_uninit, in-DW_OP_GNU_parameter_ref+in_ok-read_u32-in-DW_OP_GNU_parameter_ref, in-DW_OP_GNU_variable_value+in_ok-debug_info_offset-in-DW_OP_GNU_variable_value, in-DW_OP_reinterpret+in_ok-base_type-in-DW_OP_reinterpret, in-169-1, in-249-1, in-DW_OP_convert+in_ok-base_type-in-DW_OP_convert, in-168-1, in-247-1, in-DW_OP_deref_type+in_ok-read_u8-in-DW_OP_deref_type+in_ok-base_type-in-DW_OP_deref_type, in-166-1, in-246-1, in-DW_OP_regval_type+in_ok-register_number-in-DW_OP_regval_type+in_ok-base_type-in-DW_OP_regval_type, in-165-1, in-245-1, in-DW_OP_const_type+in_ok-typed_literal-in-DW_OP_const_type, in-164-1, in-244-1, in-DW_OP_entry_value+in_ok-long_block-in-DW_OP_entry_value, in-163-1, in-243-1, in-DW_OP_constx+in_ok-address_index-in-DW_OP_constx, in-162-1, in-252-1, in-DW_OP_addrx+in_ok-address_index-in-DW_OP_addrx, in-161-1, in-251-1, in-DW_OP_implicit_pointer+in_ok-reference-in-DW_OP_implicit_pointer+in_ok-read_sleb128-in-DW_OP_implicit_pointer, in-160-1, in-242-1, in-DW_OP_form_tls_address, in-155-1, in-224-1, in_default-via-then-this-lt8, in_default-via-else-this-lt8+else-this-lt80+else-this-lt112+else-this-lt144}

-- ---- the opcodes of no operation, by the gaps that they lie in

unknown_low : (encoding : Encoding) (opcode : ℕ) → opcode < 8 → opcode ≢ 3 → opcode ≢ 6
    → Invalid opcode ≡ row_of encoding opcode
unfolding row_of
unknown_low encoding opcode below not_addr not_deref =
    elim (cases_lt opcode 3) [
      | inl low ↦ row_within Invalid (row_of encoding) 0 3 opcode refl (omega arith) (omega arith)
      | inr high ↦ elim (cases_lt opcode 6) [
        | inl low ↦ row_within Invalid (row_of encoding) 4 2 opcode refl (omega arith) (omega arith)
        | inr higher ↦ row_within Invalid (row_of encoding) 7 1 opcode refl (omega arith) (omega arith)
      ]
    ]

unknown_high : (encoding : Encoding) (opcode : ℕ) → 170 ≤ opcode → opcode < 256 → opcode ≢ 224 → opcode ≢ 237
    → opcode ≢ 240 → (242 ≤ opcode → 248 ≤ opcode) → (249 ≤ opcode → 254 ≤ opcode) → Invalid opcode ≡ row_of encoding opcode
unfolding row_of
unknown_high encoding opcode above below not_tls not_wasm not_uninit no_typed no_index =
    elim (cases_lt opcode 224) [
      | inl low ↦ row_within Invalid (row_of encoding) 170 54 opcode refl (omega arith) (omega arith)
      | inr past_tls ↦ elim (cases_lt opcode 237) [
        | inl low ↦ row_within Invalid (row_of encoding) 225 12 opcode refl (omega arith) (omega arith)
        | inr past_wasm ↦ elim (cases_lt opcode 240) [
          | inl low ↦ row_within Invalid (row_of encoding) 238 2 opcode refl (omega arith) (omega arith)
          | inr past_uninit ↦ elim (cases_lt opcode 242) [
            | inl low ↦ row_within Invalid (row_of encoding) 241 1 opcode refl (omega arith) (omega arith)
            | inr past_typed ↦ elim (cases_lt opcode 249) [
              | inl low ↦ row_within Invalid (row_of encoding) 248 1 opcode refl (omega arith) (omega arith)
              | inr past_index ↦ row_within Invalid (row_of encoding) 254 2 opcode refl (omega arith) (omega arith)
            ]
          ]
        ]
      ]
    ]

pub returns-in_default : goal.returns-in_default
returns-in_default g c =
    let opcode = c.args.opcode in
    let invalid : Invalid opcode ≡ row_of c.args.encoding opcode = elim c.in_default.branch [
      | in_default-via-then-this-lt8 w ↦ unknown_low c.args.encoding opcode (omega arith) (omega arith) (omega arith)
      | in_default-via-else-this-lt8+else-this-lt80+else-this-lt112+else-this-lt144 w ↦
          unknown_high c.args.encoding opcode (omega arith) (omega arith) (omega arith) (omega arith) (omega arith)
          (omega arith) (omega arith)
    ] in
    rw (← invalid) (search rules)

-- ---- literals and registers that are part of the opcode

literal : (encoding : Encoding) (opcode : ℕ) → 48 ≤ opcode → opcode < 80
    → Makes (meaning.UnsignedConstant (opcode - 48)) ≡ row_of encoding opcode
unfolding row_of
literal encoding opcode low high =
    row_within (λ n. Makes (meaning.UnsignedConstant (n - 48))) (row_of encoding) 48 32 opcode refl
    (omega arith) (omega arith)

register : (encoding : Encoding) (opcode : ℕ) → 80 ≤ opcode → opcode < 112
    → Makes (meaning.Register (opcode - 80)) ≡ row_of encoding opcode
unfolding row_of
register encoding opcode low high =
    row_within (λ n. Makes (meaning.Register (n - 80))) (row_of encoding) 80 32 opcode refl (omega arith) (omega arith)

base_register : (encoding : Encoding) (opcode : ℕ) → 112 ≤ opcode → opcode < 144
    → signed Leb128 (λ offset. meaning.RegisterOffset (opcode - 112) offset 0) ≡ row_of encoding opcode
unfolding row_of
base_register encoding opcode low high =
    row_within (λ n. signed Leb128 (λ offset. meaning.RegisterOffset (n - 112) offset 0)) (row_of encoding) 112 32
    opcode refl (omega arith) (omega arith)

pub returns-in_err-read_sleb128-in-112-to-143 : goal.returns-in_err-read_sleb128-in-112-to-143
returns-in_err-read_sleb128-in-112-to-143 g c =
    rw (← base_register c.args.encoding c.args.opcode (omega arith) (omega arith)) (search rules)

-- ---- the rows that give an operation

pub returns : goal.returns
unfolding row_of
returns g c = elim c.match-this.branch [
  | in-DW_OP_addr+in_ok-read_address-in-DW_OP_addr w ↦ let is : c.args.opcode ≡ 3 = omega arith in rw w.result-is (rw w.bytes-is (rw is (search (rules, fixed_one, suffix_trans))))
  | in-DW_OP_deref w ↦ let is : c.args.opcode ≡ 6 = omega arith in rw w.result-is (rw w.bytes-is (rw is (search (rules, fixed_one, suffix_trans))))
  | in-DW_OP_const1u+in_ok-read_u8-in-DW_OP_const1u w ↦ let is : c.args.opcode ≡ 8 = omega arith in rw w.result-is (rw w.bytes-is (rw is (search (rules, fixed_one, suffix_trans))))
  | in-DW_OP_const1s+in_ok-read_i8-in-DW_OP_const1s w ↦ let is : c.args.opcode ≡ 9 = omega arith in rw w.result-is (rw w.bytes-is (rw is (search (rules, fixed_one, suffix_trans))))
  | in-DW_OP_const2u+in_ok-read_u16-in-DW_OP_const2u w ↦ let is : c.args.opcode ≡ 10 = omega arith in rw w.result-is (rw w.bytes-is (rw is (search (rules, fixed_one, suffix_trans))))
  | in-DW_OP_const2s+in_ok-read_i16-in-DW_OP_const2s w ↦ let is : c.args.opcode ≡ 11 = omega arith in rw w.result-is (rw w.bytes-is (rw is (search (rules, fixed_one, suffix_trans))))
  | in-DW_OP_const4u+in_ok-read_u32-in-DW_OP_const4u w ↦ let is : c.args.opcode ≡ 12 = omega arith in rw w.result-is (rw w.bytes-is (rw is (search (rules, fixed_one, suffix_trans))))
  | in-DW_OP_const4s+in_ok-read_i32-in-DW_OP_const4s w ↦ let is : c.args.opcode ≡ 13 = omega arith in rw w.result-is (rw w.bytes-is (rw is (search (rules, fixed_one, suffix_trans))))
  | in-DW_OP_const8u+in_ok-read_u64-in-DW_OP_const8u w ↦ let is : c.args.opcode ≡ 14 = omega arith in rw w.result-is (rw w.bytes-is (rw is (search (rules, fixed_one, suffix_trans))))
  | in-DW_OP_const8s+in_ok-read_i64-in-DW_OP_const8s w ↦ let is : c.args.opcode ≡ 15 = omega arith in rw w.result-is (rw w.bytes-is (rw is (search (rules, fixed_one, suffix_trans))))
  | in-DW_OP_constu+in_ok-read_uleb128-in-DW_OP_constu w ↦ let is : c.args.opcode ≡ 16 = omega arith in rw w.result-is (rw w.bytes-is (rw is (search (rules, fixed_one, suffix_trans))))
  | in-DW_OP_consts+in_ok-read_sleb128-in-DW_OP_consts w ↦ let is : c.args.opcode ≡ 17 = omega arith in rw w.result-is (rw w.bytes-is (rw is (search (rules, fixed_one, suffix_trans))))
  | in-DW_OP_dup w ↦ let is : c.args.opcode ≡ 18 = omega arith in rw w.result-is (rw w.bytes-is (rw is (made _ _ _)))
  | in-DW_OP_drop w ↦ let is : c.args.opcode ≡ 19 = omega arith in rw w.result-is (rw w.bytes-is (rw is (made _ _ _)))
  | in-DW_OP_over w ↦ let is : c.args.opcode ≡ 20 = omega arith in rw w.result-is (rw w.bytes-is (rw is (made _ _ _)))
  | in-DW_OP_pick+in_ok-read_u8-in-DW_OP_pick w ↦ let is : c.args.opcode ≡ 21 = omega arith in rw w.result-is (rw w.bytes-is (rw is (search (rules, fixed_one, suffix_trans))))
  | in-DW_OP_swap w ↦ let is : c.args.opcode ≡ 22 = omega arith in rw w.result-is (rw w.bytes-is (rw is (made _ _ _)))
  | in-DW_OP_rot w ↦ let is : c.args.opcode ≡ 23 = omega arith in rw w.result-is (rw w.bytes-is (rw is (made _ _ _)))
  | in-DW_OP_xderef w ↦ let is : c.args.opcode ≡ 24 = omega arith in rw w.result-is (rw w.bytes-is (rw is (search (rules, fixed_one, suffix_trans))))
  | in-DW_OP_abs w ↦ let is : c.args.opcode ≡ 25 = omega arith in rw w.result-is (rw w.bytes-is (rw is (made _ _ _)))
  | in-DW_OP_and w ↦ let is : c.args.opcode ≡ 26 = omega arith in rw w.result-is (rw w.bytes-is (rw is (made _ _ _)))
  | in-DW_OP_div w ↦ let is : c.args.opcode ≡ 27 = omega arith in rw w.result-is (rw w.bytes-is (rw is (made _ _ _)))
  | in-DW_OP_minus w ↦ let is : c.args.opcode ≡ 28 = omega arith in rw w.result-is (rw w.bytes-is (rw is (made _ _ _)))
  | in-DW_OP_mod w ↦ let is : c.args.opcode ≡ 29 = omega arith in rw w.result-is (rw w.bytes-is (rw is (made _ _ _)))
  | in-DW_OP_mul w ↦ let is : c.args.opcode ≡ 30 = omega arith in rw w.result-is (rw w.bytes-is (rw is (made _ _ _)))
  | in-DW_OP_neg w ↦ let is : c.args.opcode ≡ 31 = omega arith in rw w.result-is (rw w.bytes-is (rw is (made _ _ _)))
  | in-DW_OP_not w ↦ let is : c.args.opcode ≡ 32 = omega arith in rw w.result-is (rw w.bytes-is (rw is (made _ _ _)))
  | in-DW_OP_or w ↦ let is : c.args.opcode ≡ 33 = omega arith in rw w.result-is (rw w.bytes-is (rw is (made _ _ _)))
  | in-DW_OP_plus w ↦ let is : c.args.opcode ≡ 34 = omega arith in rw w.result-is (rw w.bytes-is (rw is (made _ _ _)))
  | in-DW_OP_plus_uconst+in_ok-read_uleb128-in-DW_OP_plus_uconst w ↦ let is : c.args.opcode ≡ 35 = omega arith in rw w.result-is (rw w.bytes-is (rw is (search (rules, fixed_one, suffix_trans))))
  | in-DW_OP_shl w ↦ let is : c.args.opcode ≡ 36 = omega arith in rw w.result-is (rw w.bytes-is (rw is (made _ _ _)))
  | in-DW_OP_shr w ↦ let is : c.args.opcode ≡ 37 = omega arith in rw w.result-is (rw w.bytes-is (rw is (made _ _ _)))
  | in-DW_OP_shra w ↦ let is : c.args.opcode ≡ 38 = omega arith in rw w.result-is (rw w.bytes-is (rw is (made _ _ _)))
  | in-DW_OP_xor w ↦ let is : c.args.opcode ≡ 39 = omega arith in rw w.result-is (rw w.bytes-is (rw is (made _ _ _)))
  | in-DW_OP_bra+in_ok-read_i16-in-DW_OP_bra w ↦ let is : c.args.opcode ≡ 40 = omega arith in rw w.result-is (rw w.bytes-is (rw is (search (rules, fixed_one, suffix_trans))))
  | in-DW_OP_eq w ↦ let is : c.args.opcode ≡ 41 = omega arith in rw w.result-is (rw w.bytes-is (rw is (made _ _ _)))
  | in-DW_OP_ge w ↦ let is : c.args.opcode ≡ 42 = omega arith in rw w.result-is (rw w.bytes-is (rw is (made _ _ _)))
  | in-DW_OP_gt w ↦ let is : c.args.opcode ≡ 43 = omega arith in rw w.result-is (rw w.bytes-is (rw is (made _ _ _)))
  | in-DW_OP_le w ↦ let is : c.args.opcode ≡ 44 = omega arith in rw w.result-is (rw w.bytes-is (rw is (made _ _ _)))
  | in-DW_OP_lt w ↦ let is : c.args.opcode ≡ 45 = omega arith in rw w.result-is (rw w.bytes-is (rw is (made _ _ _)))
  | in-DW_OP_ne w ↦ let is : c.args.opcode ≡ 46 = omega arith in rw w.result-is (rw w.bytes-is (rw is (made _ _ _)))
  | in-DW_OP_skip+in_ok-read_i16-in-DW_OP_skip w ↦ let is : c.args.opcode ≡ 47 = omega arith in rw w.result-is (rw w.bytes-is (rw is (search (rules, fixed_one, suffix_trans))))
  | in-48-to-79 w ↦ rw w.result-is (rw w.bytes-is (rw (← literal c.args.encoding c.args.opcode (omega arith) (omega arith)) (record { value = cc; rest = suffix_whole _; order = refl })))
  | in-80-to-111 w ↦ rw w.result-is (rw w.bytes-is (rw (← register c.args.encoding c.args.opcode (omega arith) (omega arith)) (record { value = cc; rest = suffix_whole _; order = refl })))
  | in-112-to-143+in_ok-read_sleb128-in-112-to-143 w ↦ rw w.result-is (rw w.bytes-is (rw (← base_register c.args.encoding c.args.opcode (omega arith) (omega arith)) (search (rules, suffix_trans))))
  | in-DW_OP_regx+in_ok-register_number-in-DW_OP_regx w ↦ let is : c.args.opcode ≡ 144 = omega arith in rw w.result-is (rw w.bytes-is (rw is (search (rules, fixed_one, suffix_trans))))
  | in-DW_OP_fbreg+in_ok-read_sleb128-in-DW_OP_fbreg w ↦ let is : c.args.opcode ≡ 145 = omega arith in rw w.result-is (rw w.bytes-is (rw is (search (rules, fixed_one, suffix_trans))))
  | in-DW_OP_bregx+in_ok-register_number-in-DW_OP_bregx+in_ok-read_sleb128-in-DW_OP_bregx w ↦ let is : c.args.opcode ≡ 146 = omega arith in rw w.result-is (rw w.bytes-is (rw is (search (rules, fixed_one, suffix_trans))))
  | in-DW_OP_piece+in_ok-piece_size-in-DW_OP_piece w ↦ let is : c.args.opcode ≡ 147 = omega arith in rw w.result-is (rw w.bytes-is (rw is (search (rules, fixed_one, suffix_trans))))
  | in-DW_OP_deref_size+in_ok-read_u8-in-DW_OP_deref_size w ↦ let is : c.args.opcode ≡ 148 = omega arith in rw w.result-is (rw w.bytes-is (rw is (search (rules, fixed_one, suffix_trans))))
  | in-DW_OP_xderef_size+in_ok-read_u8-in-DW_OP_xderef_size w ↦ let is : c.args.opcode ≡ 149 = omega arith in rw w.result-is (rw w.bytes-is (rw is (search (rules, fixed_one, suffix_trans))))
  | in-DW_OP_nop w ↦ let is : c.args.opcode ≡ 150 = omega arith in rw w.result-is (rw w.bytes-is (rw is (made _ _ _)))
  | in-DW_OP_push_object_address w ↦ let is : c.args.opcode ≡ 151 = omega arith in rw w.result-is (rw w.bytes-is (rw is (made _ _ _)))
  | in-DW_OP_call2+in_ok-read_u16-in-DW_OP_call2 w ↦ let is : c.args.opcode ≡ 152 = omega arith in rw w.result-is (rw w.bytes-is (rw is (search (rules, fixed_one, suffix_trans))))
  | in-DW_OP_call4+in_ok-read_u32-in-DW_OP_call4 w ↦ let is : c.args.opcode ≡ 153 = omega arith in rw w.result-is (rw w.bytes-is (rw is (search (rules, fixed_one, suffix_trans))))
  | in-DW_OP_call_ref+in_ok-debug_info_offset-in-DW_OP_call_ref w ↦ let is : c.args.opcode ≡ 154 = omega arith in rw w.result-is (rw w.bytes-is (rw is (search (rules, fixed_one, suffix_trans))))
  | in-DW_OP_call_frame_cfa w ↦ let is : c.args.opcode ≡ 156 = omega arith in rw w.result-is (rw w.bytes-is (rw is (made _ _ _)))
  | in-DW_OP_bit_piece+in_ok-read_uleb128-in-DW_OP_bit_piece+in_ok-read_uleb128-in-DW_OP_bit_piece-2 w ↦ let is : c.args.opcode ≡ 157 = omega arith in rw w.result-is (rw w.bytes-is (rw is (search (rules, fixed_one, suffix_trans))))
  | in-DW_OP_implicit_value+in_ok-long_block-in-DW_OP_implicit_value w ↦ let is : c.args.opcode ≡ 158 = omega arith in rw w.result-is (rw w.bytes-is (rw is (record { value = block_row _ _ (Leb128, Offset) meaning.ImplicitValue _ _ (search rules); rest = search rules; order = search rules })))
  | in-DW_OP_stack_value w ↦ let is : c.args.opcode ≡ 159 = omega arith in rw w.result-is (rw w.bytes-is (rw is (made _ _ _)))
  | in-DW_OP_xderef_type+in_ok-read_u8-in-DW_OP_xderef_type+in_ok-base_type-in-DW_OP_xderef_type w ↦ let is : c.args.opcode ≡ 167 = omega arith in rw w.result-is (rw w.bytes-is (rw is (search (rules, fixed_one, suffix_trans))))
  | in-DW_OP_WASM_location+in_ok-wasm_location-in-DW_OP_WASM_location w ↦ let is : c.args.opcode ≡ 237 = omega arith in rw w.result-is (rw w.bytes-is (rw is (search (rules, fixed_one, suffix_trans))))
  | in-DW_OP_GNU_uninit w ↦ let is : c.args.opcode ≡ 240 = omega arith in rw w.result-is (rw w.bytes-is (rw is (made _ _ _)))
  | in-DW_OP_GNU_parameter_ref+in_ok-read_u32-in-DW_OP_GNU_parameter_ref w ↦ let is : c.args.opcode ≡ 250 = omega arith in rw w.result-is (rw w.bytes-is (rw is (search (rules, fixed_one, suffix_trans))))
  | in-DW_OP_GNU_variable_value+in_ok-debug_info_offset-in-DW_OP_GNU_variable_value w ↦ let is : c.args.opcode ≡ 253 = omega arith in rw w.result-is (rw w.bytes-is (rw is (record { value = first_of (cc, grind (arith, common_steps), search (rules, fixed_one)); rest = search rules; order = search rules })))
  | in-DW_OP_reinterpret+in_ok-base_type-in-DW_OP_reinterpret w ↦ elim w.in-DW_OP_reinterpret-1.branch [ in-169-1 w' ↦ let is : c.args.opcode ≡ 169 = omega arith in rw w.result-is (rw w.bytes-is (rw is (search (rules, fixed_one, suffix_trans)))) | in-249-1 w' ↦ let is : c.args.opcode ≡ 249 = omega arith in rw w.result-is (rw w.bytes-is (rw is (search (rules, fixed_one, suffix_trans)))) ]
  | in-DW_OP_convert+in_ok-base_type-in-DW_OP_convert w ↦ elim w.in-DW_OP_convert-1.branch [ in-168-1 w' ↦ let is : c.args.opcode ≡ 168 = omega arith in rw w.result-is (rw w.bytes-is (rw is (search (rules, fixed_one, suffix_trans)))) | in-247-1 w' ↦ let is : c.args.opcode ≡ 247 = omega arith in rw w.result-is (rw w.bytes-is (rw is (search (rules, fixed_one, suffix_trans)))) ]
  | in-DW_OP_deref_type+in_ok-read_u8-in-DW_OP_deref_type+in_ok-base_type-in-DW_OP_deref_type w ↦ elim w.in-DW_OP_deref_type-1.branch [ in-166-1 w' ↦ let is : c.args.opcode ≡ 166 = omega arith in rw w.result-is (rw w.bytes-is (rw is (search (rules, fixed_one, suffix_trans)))) | in-246-1 w' ↦ let is : c.args.opcode ≡ 246 = omega arith in rw w.result-is (rw w.bytes-is (rw is (search (rules, fixed_one, suffix_trans)))) ]
  | in-DW_OP_regval_type+in_ok-register_number-in-DW_OP_regval_type+in_ok-base_type-in-DW_OP_regval_type w ↦ elim w.in-DW_OP_regval_type-1.branch [ in-165-1 w' ↦ let is : c.args.opcode ≡ 165 = omega arith in rw w.result-is (rw w.bytes-is (rw is (search (rules, fixed_one, suffix_trans)))) | in-245-1 w' ↦ let is : c.args.opcode ≡ 245 = omega arith in rw w.result-is (rw w.bytes-is (rw is (search (rules, fixed_one, suffix_trans)))) ]
  | in-DW_OP_const_type+in_ok-typed_literal-in-DW_OP_const_type w ↦ elim w.in-DW_OP_const_type-1.branch [ in-164-1 w' ↦ let is : c.args.opcode ≡ 164 = omega arith in rw w.result-is (rw w.bytes-is (rw is (search (rules, fixed_one, suffix_trans)))) | in-244-1 w' ↦ let is : c.args.opcode ≡ 244 = omega arith in rw w.result-is (rw w.bytes-is (rw is (search (rules, fixed_one, suffix_trans)))) ]
  | in-DW_OP_entry_value+in_ok-long_block-in-DW_OP_entry_value w ↦ elim w.in-DW_OP_entry_value-1.branch [ in-163-1 w' ↦ let is : c.args.opcode ≡ 163 = omega arith in rw w.result-is (rw w.bytes-is (rw is (record { value = block_row _ _ (Leb128, Offset) meaning.EntryValue _ _ (search rules); rest = search rules; order = search rules }))) | in-243-1 w' ↦ let is : c.args.opcode ≡ 243 = omega arith in rw w.result-is (rw w.bytes-is (rw is (record { value = block_row _ _ (Leb128, Offset) meaning.EntryValue _ _ (search rules); rest = search rules; order = search rules }))) ]
  | in-DW_OP_constx+in_ok-address_index-in-DW_OP_constx w ↦ elim w.in-DW_OP_constx-1.branch [ in-162-1 w' ↦ let is : c.args.opcode ≡ 162 = omega arith in rw w.result-is (rw w.bytes-is (rw is (search (rules, fixed_one, suffix_trans)))) | in-252-1 w' ↦ let is : c.args.opcode ≡ 252 = omega arith in rw w.result-is (rw w.bytes-is (rw is (search (rules, fixed_one, suffix_trans)))) ]
  | in-DW_OP_addrx+in_ok-address_index-in-DW_OP_addrx w ↦ elim w.in-DW_OP_addrx-1.branch [ in-161-1 w' ↦ let is : c.args.opcode ≡ 161 = omega arith in rw w.result-is (rw w.bytes-is (rw is (search (rules, fixed_one, suffix_trans)))) | in-251-1 w' ↦ let is : c.args.opcode ≡ 251 = omega arith in rw w.result-is (rw w.bytes-is (rw is (search (rules, fixed_one, suffix_trans)))) ]
  | in-DW_OP_implicit_pointer+in_ok-reference-in-DW_OP_implicit_pointer+in_ok-read_sleb128-in-DW_OP_implicit_pointer w ↦ elim w.in-DW_OP_implicit_pointer-1.branch [ in-160-1 w' ↦ let is : c.args.opcode ≡ 160 = omega arith in rw w.result-is (rw w.bytes-is (rw is (search (rules, fixed_one, suffix_trans)))) | in-242-1 w' ↦ let is : c.args.opcode ≡ 242 = omega arith in rw w.result-is (rw w.bytes-is (rw is (search (rules, fixed_one, suffix_trans)))) ]
  | in-DW_OP_form_tls_address w ↦ elim w.in-DW_OP_form_tls_address-1.branch [ in-155-1 w' ↦ let is : c.args.opcode ≡ 155 = omega arith in rw w.result-is (rw w.bytes-is (rw is (made _ _ _))) | in-224-1 w' ↦ let is : c.args.opcode ≡ 224 = omega arith in rw w.result-is (rw w.bytes-is (rw is (made _ _ _))) ]
]

-- The numbers that DWARF gives to operations and to the encodings of base types, each beside the constant of its name.
use Rattle.std.specs.Prelude.{◌≡◌, ℕ, List, [], ◌∷◌, map}
use Rattle.dwarf_base.specs.declared.constants.TheConstants as constant

-- the constant of each row has the number of its row
abbrev pub HaveTheirNumbers : List (ℕ × ℕ) → Type 0
HaveTheirNumbers rows = map (λ row. row.1) rows ≡ map (λ row. row.0) rows

-- operations (DWARF 5, section 7.7.1)
abbrev pub operation_numbers : List (ℕ × ℕ)
operation_numbers =
    (0x03, constant.DW_OP_addr.0) ∷ (0x06, constant.DW_OP_deref.0) ∷ (0x08, constant.DW_OP_const1u.0)
    ∷ (0x09, constant.DW_OP_const1s.0) ∷ (0x0a, constant.DW_OP_const2u.0) ∷ (0x0b, constant.DW_OP_const2s.0)
    ∷ (0x0c, constant.DW_OP_const4u.0) ∷ (0x0d, constant.DW_OP_const4s.0) ∷ (0x0e, constant.DW_OP_const8u.0)
    ∷ (0x0f, constant.DW_OP_const8s.0) ∷ (0x10, constant.DW_OP_constu.0) ∷ (0x11, constant.DW_OP_consts.0)
    ∷ (0x12, constant.DW_OP_dup.0) ∷ (0x13, constant.DW_OP_drop.0) ∷ (0x14, constant.DW_OP_over.0)
    ∷ (0x15, constant.DW_OP_pick.0) ∷ (0x16, constant.DW_OP_swap.0) ∷ (0x17, constant.DW_OP_rot.0)
    ∷ (0x18, constant.DW_OP_xderef.0) ∷ (0x19, constant.DW_OP_abs.0) ∷ (0x1a, constant.DW_OP_and.0)
    ∷ (0x1b, constant.DW_OP_div.0) ∷ (0x1c, constant.DW_OP_minus.0) ∷ (0x1d, constant.DW_OP_mod.0)
    ∷ (0x1e, constant.DW_OP_mul.0) ∷ (0x1f, constant.DW_OP_neg.0) ∷ (0x20, constant.DW_OP_not.0)
    ∷ (0x21, constant.DW_OP_or.0) ∷ (0x22, constant.DW_OP_plus.0) ∷ (0x23, constant.DW_OP_plus_uconst.0)
    ∷ (0x24, constant.DW_OP_shl.0) ∷ (0x25, constant.DW_OP_shr.0) ∷ (0x26, constant.DW_OP_shra.0)
    ∷ (0x27, constant.DW_OP_xor.0) ∷ (0x28, constant.DW_OP_bra.0) ∷ (0x29, constant.DW_OP_eq.0)
    ∷ (0x2a, constant.DW_OP_ge.0) ∷ (0x2b, constant.DW_OP_gt.0) ∷ (0x2c, constant.DW_OP_le.0)
    ∷ (0x2d, constant.DW_OP_lt.0) ∷ (0x2e, constant.DW_OP_ne.0) ∷ (0x2f, constant.DW_OP_skip.0)
    ∷ (0x30, constant.DW_OP_lit0.0) ∷ (0x31, constant.DW_OP_lit1.0) ∷ (0x32, constant.DW_OP_lit2.0)
    ∷ (0x33, constant.DW_OP_lit3.0) ∷ (0x34, constant.DW_OP_lit4.0) ∷ (0x35, constant.DW_OP_lit5.0)
    ∷ (0x36, constant.DW_OP_lit6.0) ∷ (0x37, constant.DW_OP_lit7.0) ∷ (0x38, constant.DW_OP_lit8.0)
    ∷ (0x39, constant.DW_OP_lit9.0) ∷ (0x3a, constant.DW_OP_lit10.0) ∷ (0x3b, constant.DW_OP_lit11.0)
    ∷ (0x3c, constant.DW_OP_lit12.0) ∷ (0x3d, constant.DW_OP_lit13.0) ∷ (0x3e, constant.DW_OP_lit14.0)
    ∷ (0x3f, constant.DW_OP_lit15.0) ∷ (0x40, constant.DW_OP_lit16.0) ∷ (0x41, constant.DW_OP_lit17.0)
    ∷ (0x42, constant.DW_OP_lit18.0) ∷ (0x43, constant.DW_OP_lit19.0) ∷ (0x44, constant.DW_OP_lit20.0)
    ∷ (0x45, constant.DW_OP_lit21.0) ∷ (0x46, constant.DW_OP_lit22.0) ∷ (0x47, constant.DW_OP_lit23.0)
    ∷ (0x48, constant.DW_OP_lit24.0) ∷ (0x49, constant.DW_OP_lit25.0) ∷ (0x4a, constant.DW_OP_lit26.0)
    ∷ (0x4b, constant.DW_OP_lit27.0) ∷ (0x4c, constant.DW_OP_lit28.0) ∷ (0x4d, constant.DW_OP_lit29.0)
    ∷ (0x4e, constant.DW_OP_lit30.0) ∷ (0x4f, constant.DW_OP_lit31.0) ∷ (0x50, constant.DW_OP_reg0.0)
    ∷ (0x51, constant.DW_OP_reg1.0) ∷ (0x52, constant.DW_OP_reg2.0) ∷ (0x53, constant.DW_OP_reg3.0)
    ∷ (0x54, constant.DW_OP_reg4.0) ∷ (0x55, constant.DW_OP_reg5.0) ∷ (0x56, constant.DW_OP_reg6.0)
    ∷ (0x57, constant.DW_OP_reg7.0) ∷ (0x58, constant.DW_OP_reg8.0) ∷ (0x59, constant.DW_OP_reg9.0)
    ∷ (0x5a, constant.DW_OP_reg10.0) ∷ (0x5b, constant.DW_OP_reg11.0) ∷ (0x5c, constant.DW_OP_reg12.0)
    ∷ (0x5d, constant.DW_OP_reg13.0) ∷ (0x5e, constant.DW_OP_reg14.0) ∷ (0x5f, constant.DW_OP_reg15.0)
    ∷ (0x60, constant.DW_OP_reg16.0) ∷ (0x61, constant.DW_OP_reg17.0) ∷ (0x62, constant.DW_OP_reg18.0)
    ∷ (0x63, constant.DW_OP_reg19.0) ∷ (0x64, constant.DW_OP_reg20.0) ∷ (0x65, constant.DW_OP_reg21.0)
    ∷ (0x66, constant.DW_OP_reg22.0) ∷ (0x67, constant.DW_OP_reg23.0) ∷ (0x68, constant.DW_OP_reg24.0)
    ∷ (0x69, constant.DW_OP_reg25.0) ∷ (0x6a, constant.DW_OP_reg26.0) ∷ (0x6b, constant.DW_OP_reg27.0)
    ∷ (0x6c, constant.DW_OP_reg28.0) ∷ (0x6d, constant.DW_OP_reg29.0) ∷ (0x6e, constant.DW_OP_reg30.0)
    ∷ (0x6f, constant.DW_OP_reg31.0) ∷ (0x70, constant.DW_OP_breg0.0) ∷ (0x71, constant.DW_OP_breg1.0)
    ∷ (0x72, constant.DW_OP_breg2.0) ∷ (0x73, constant.DW_OP_breg3.0) ∷ (0x74, constant.DW_OP_breg4.0)
    ∷ (0x75, constant.DW_OP_breg5.0) ∷ (0x76, constant.DW_OP_breg6.0) ∷ (0x77, constant.DW_OP_breg7.0)
    ∷ (0x78, constant.DW_OP_breg8.0) ∷ (0x79, constant.DW_OP_breg9.0) ∷ (0x7a, constant.DW_OP_breg10.0)
    ∷ (0x7b, constant.DW_OP_breg11.0) ∷ (0x7c, constant.DW_OP_breg12.0) ∷ (0x7d, constant.DW_OP_breg13.0)
    ∷ (0x7e, constant.DW_OP_breg14.0) ∷ (0x7f, constant.DW_OP_breg15.0) ∷ (0x80, constant.DW_OP_breg16.0)
    ∷ (0x81, constant.DW_OP_breg17.0) ∷ (0x82, constant.DW_OP_breg18.0) ∷ (0x83, constant.DW_OP_breg19.0)
    ∷ (0x84, constant.DW_OP_breg20.0) ∷ (0x85, constant.DW_OP_breg21.0) ∷ (0x86, constant.DW_OP_breg22.0)
    ∷ (0x87, constant.DW_OP_breg23.0) ∷ (0x88, constant.DW_OP_breg24.0) ∷ (0x89, constant.DW_OP_breg25.0)
    ∷ (0x8a, constant.DW_OP_breg26.0) ∷ (0x8b, constant.DW_OP_breg27.0) ∷ (0x8c, constant.DW_OP_breg28.0)
    ∷ (0x8d, constant.DW_OP_breg29.0) ∷ (0x8e, constant.DW_OP_breg30.0) ∷ (0x8f, constant.DW_OP_breg31.0)
    ∷ (0x90, constant.DW_OP_regx.0) ∷ (0x91, constant.DW_OP_fbreg.0) ∷ (0x92, constant.DW_OP_bregx.0)
    ∷ (0x93, constant.DW_OP_piece.0) ∷ (0x94, constant.DW_OP_deref_size.0) ∷ (0x95, constant.DW_OP_xderef_size.0)
    ∷ (0x96, constant.DW_OP_nop.0) ∷ (0x97, constant.DW_OP_push_object_address.0) ∷ (0x98, constant.DW_OP_call2.0)
    ∷ (0x99, constant.DW_OP_call4.0) ∷ (0x9a, constant.DW_OP_call_ref.0) ∷ (0x9b, constant.DW_OP_form_tls_address.0)
    ∷ (0x9c, constant.DW_OP_call_frame_cfa.0) ∷ (0x9d, constant.DW_OP_bit_piece.0)
    ∷ (0x9e, constant.DW_OP_implicit_value.0)
    ∷ (0x9f, constant.DW_OP_stack_value.0) ∷ (0xa0, constant.DW_OP_implicit_pointer.0) ∷ (0xa1, constant.DW_OP_addrx.0)
    ∷ (0xa2, constant.DW_OP_constx.0) ∷ (0xa3, constant.DW_OP_entry_value.0) ∷ (0xa4, constant.DW_OP_const_type.0)
    ∷ (0xa5, constant.DW_OP_regval_type.0) ∷ (0xa6, constant.DW_OP_deref_type.0) ∷ (0xa7, constant.DW_OP_xderef_type.0)
    ∷ (0xa8, constant.DW_OP_convert.0) ∷ (0xa9, constant.DW_OP_reinterpret.0)
    ∷ []

-- operations of GNU and of WebAssembly, in the range that is left to extensions
abbrev pub extension_numbers : List (ℕ × ℕ)
extension_numbers =
    (0xe0, constant.DW_OP_GNU_push_tls_address.0) ∷ (0xed, constant.DW_OP_WASM_location.0)
    ∷ (0xf0, constant.DW_OP_GNU_uninit.0) ∷ (0xf2, constant.DW_OP_GNU_implicit_pointer.0)
    ∷ (0xf3, constant.DW_OP_GNU_entry_value.0) ∷ (0xf4, constant.DW_OP_GNU_const_type.0)
    ∷ (0xf5, constant.DW_OP_GNU_regval_type.0) ∷ (0xf6, constant.DW_OP_GNU_deref_type.0)
    ∷ (0xf7, constant.DW_OP_GNU_convert.0) ∷ (0xf9, constant.DW_OP_GNU_reinterpret.0)
    ∷ (0xfa, constant.DW_OP_GNU_parameter_ref.0) ∷ (0xfb, constant.DW_OP_GNU_addr_index.0)
    ∷ (0xfc, constant.DW_OP_GNU_const_index.0) ∷ (0xfd, constant.DW_OP_GNU_variable_value.0)
    ∷ []

-- encodings of base types (DWARF 5, section 7.8)
abbrev pub encoding_numbers : List (ℕ × ℕ)
encoding_numbers =
    (0x04, constant.DW_ATE_float.0) ∷ (0x05, constant.DW_ATE_signed.0) ∷ (0x07, constant.DW_ATE_unsigned.0)
    ∷ []

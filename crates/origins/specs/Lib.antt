-- Where a wire comes from, as the code answers it.
pub mod Origins

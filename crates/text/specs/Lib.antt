-- Numbers, words and lines as bytes of ASCII, and what putting them into a lent buffer promises.
pub mod Text
